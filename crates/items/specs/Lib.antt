-- The items of a log as numbers, as bytes and as lines of text, to be read in this order. Nothing is proved here.
pub mod Items
pub mod Lines
pub mod Room
