-- What becomes of the keys. Nothing is proved here.
pub mod Due
