-- A checker of traces. Nothing is proved here.
pub mod Checking
