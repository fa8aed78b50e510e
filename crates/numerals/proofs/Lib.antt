-- Digits read one by one, plain numbers, and numbers that compute.
pub mod Digits
pub mod LongDigits
pub mod Signs
pub mod Plain
pub mod Again
pub mod Cases
