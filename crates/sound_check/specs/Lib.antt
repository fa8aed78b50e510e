-- What functions of this crate answer. Nothing is proved here. Assumes nothing.
pub mod Answers
