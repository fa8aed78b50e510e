-- What the last of a run is promised in. Nothing is proved here.
pub mod Runs
