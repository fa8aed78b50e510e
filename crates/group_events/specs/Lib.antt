-- What an event answers. Nothing is proved here. Assumes nothing.
pub mod Answers
