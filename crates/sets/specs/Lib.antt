-- What a word means as a set of clients. Assumes nothing.
pub mod Sets
