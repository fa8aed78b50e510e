-- Who is seen in a queue. Nothing is proved here. Assumes nothing.
pub mod Seen
