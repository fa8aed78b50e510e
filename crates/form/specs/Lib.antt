-- An input as orders, and an answer as a line of text. Nothing is proved here.
pub mod Input
pub mod Output
pub mod Parts
