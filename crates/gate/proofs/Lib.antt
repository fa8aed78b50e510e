-- What follows from the definitions of this crate.
pub mod Verdicts
pub mod Zeros
pub mod Searches
pub mod Making
pub mod Tables
pub mod Only
pub mod Cases
