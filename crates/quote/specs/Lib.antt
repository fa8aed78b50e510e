-- What the contracts of `quote` cite beside the rules. Nothing is proved here.
pub mod Told
pub mod Steps
