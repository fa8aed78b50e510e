-- What the moves' proofs stand on: a law for each way that a move can go.
pub mod Refill
pub mod Pick
pub mod Queue
