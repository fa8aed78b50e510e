-- What the doors answer, in terms of the rules. Assumes nothing.
pub mod Stepped
pub mod Theorems
pub mod Cases
