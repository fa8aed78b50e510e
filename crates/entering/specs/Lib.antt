-- What invoke is promised in. Nothing is proved here.
pub mod Finds
