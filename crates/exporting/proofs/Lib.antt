-- What follows from the definitions, and logs that compute.
pub mod Spread
pub mod Texts
pub mod Cases
