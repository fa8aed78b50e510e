-- The fronts as a set, and the global queue by it.
pub mod Fronts
pub mod Globals
