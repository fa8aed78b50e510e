-- What the proofs of a run stand on.
pub mod Running
