-- What follows from the definitions, and logs that compute.
pub mod Puts
pub mod Texts
pub mod ReadBack
pub mod Events
pub mod WriteBack
pub mod Within
pub mod Prints
pub mod Cases
