-- Who blocks whom, by sets, and to whom a context delegates. Nothing is proved here. Assumes nothing.
pub mod Queue
pub mod Delegates
