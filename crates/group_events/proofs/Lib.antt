-- What an event answers and returns, in terms of the rules. Assumes nothing.
pub mod Told
pub mod Answers
pub mod Tops
pub mod Cases
