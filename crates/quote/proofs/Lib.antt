-- What the proofs of `quote` share.
pub mod Ranges
pub mod Lines
pub mod Most
pub mod Answers
pub mod Only
