-- Who waits, and the whole test by the parts of a gate.
pub mod Waiting
pub mod Rest
pub mod Cases
