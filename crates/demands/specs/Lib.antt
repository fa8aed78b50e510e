-- What the demands are stated with. Nothing is proved here.
pub mod Histories
pub mod Numbers
