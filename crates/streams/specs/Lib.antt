-- What a read does to an input, and what is said of a failure. Nothing is proved here.
pub mod Failures
pub mod Reads
