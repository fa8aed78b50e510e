-- Events out of an input, and in parts, to be read in this order. Nothing is proved here. Assumes nothing.
pub mod Reading
pub mod Parts
