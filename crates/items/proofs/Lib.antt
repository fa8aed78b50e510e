-- The numbers of a log's items: their sizes, lines and bytes, how long they get, what fits; and cases that compute.
pub mod Numbers
pub mod Sizes
pub mod Longest
pub mod Joined
pub mod Texts
pub mod Bytes
pub mod Fits
pub mod Cases
