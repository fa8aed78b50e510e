-- What is proved of inputs and their judgements.
pub mod Room
pub mod Closing
pub mod Parts
pub mod Texts
pub mod Cases
