-- What holds of sets of clients, for words of any width. Assumes nothing.
pub mod Bits
pub mod Laws
pub mod Lowest
pub mod Words
pub mod Counts
pub mod Walks
pub mod Cases
