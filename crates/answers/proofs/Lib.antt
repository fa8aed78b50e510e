-- What the events' proofs stand on: the parts after an answer; and that no second answer fits.
pub mod Answering
pub mod Only
