-- What the doors of a group answer. Nothing is proved here. Assumes nothing.
pub mod Doors
