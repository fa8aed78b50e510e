-- What rank is read as. Nothing is proved here.
pub mod Ranks
pub mod Keeps
