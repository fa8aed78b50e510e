-- A line of text cut into fields. Nothing is proved here.
pub mod Fields
