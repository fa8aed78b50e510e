-- What is proved of reads, and cases of what is told.
mod FailureCases
pub mod Known
pub mod KnownCases
mod WholeCases
