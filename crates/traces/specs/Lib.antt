-- A trace out of an input in parts, and its judgement, to be read in this order. Nothing is proved here.
pub mod Reading
pub mod Judgement
