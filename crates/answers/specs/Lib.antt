-- What the events are promised in. Nothing is proved here.
pub mod Answers
