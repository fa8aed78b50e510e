-- The fields one by one, and cases that compute. Assumes nothing.
pub mod Fields
pub mod Cases
