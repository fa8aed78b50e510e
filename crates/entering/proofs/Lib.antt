-- What the proofs of invoke stand on: a law for each way that it can go, and what it finds.
pub mod Arriving
pub mod Found
