-- What the server is read as. Nothing is proved here.
pub mod Service
