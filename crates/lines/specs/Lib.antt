-- A line of text as numbers, and an input as lines. Nothing is proved here.
pub mod Lines
pub mod Input
