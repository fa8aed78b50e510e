-- What the proofs of reply and abort stand on: a law for each way that they can go, and what they find.
pub mod Leaving
pub mod Found
