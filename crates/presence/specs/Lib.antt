-- What the tests of presence say. Nothing is proved here.
pub mod Presence
