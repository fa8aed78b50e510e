-- What the functions answer. Nothing is proved here. Assumes nothing.
pub mod Answers
