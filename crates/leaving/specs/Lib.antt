-- What reply and abort are promised in. Nothing is proved here.
pub mod Finds
