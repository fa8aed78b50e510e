-- How long what is read and printed gets. Nothing is proved here.
pub mod Sizes
pub mod Within
