-- The line that tells what an event did. Nothing is proved here. Assumes nothing.
pub mod Tells
