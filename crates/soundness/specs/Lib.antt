-- Which gates are sound, as a test that computes, and what it is to say. Nothing is proved here. Assumes nothing.
pub mod Tests
pub mod Clauses
pub mod Form
