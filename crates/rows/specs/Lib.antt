-- What the rows are read as. Nothing is proved here.
pub mod Homes
