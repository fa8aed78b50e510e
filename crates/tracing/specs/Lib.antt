-- A trace as lines of text, to be read in this order. Nothing is proved here.
pub mod Shapes
pub mod Tracing
