-- What the functions of this crate answer. Nothing is proved here.
pub mod Answers
