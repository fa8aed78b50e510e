-- What is proved of an import.
pub mod Bytes
pub mod Lines
pub mod Taking
pub mod Ending
pub mod Whole
pub mod Cases
