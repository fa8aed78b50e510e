-- What the proofs of `order` share.
pub mod Cases
pub mod Columns
pub mod Asked
