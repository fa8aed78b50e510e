-- What the proofs of `form` share.
pub mod Text
pub mod Seams
pub mod Parts
pub mod Cases
