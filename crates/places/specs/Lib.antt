-- What places hold, and what is done to them. Assumes nothing.
pub mod Places
pub mod Tests
