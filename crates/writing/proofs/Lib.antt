-- What follows from the definitions, and writes that compute.
pub mod Room
pub mod Only
pub mod Cases
