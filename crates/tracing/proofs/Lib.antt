-- What is proved of a trace's lines.
pub mod Entries
pub mod Cases
pub mod Lines
pub mod Fitting
pub mod Taken
