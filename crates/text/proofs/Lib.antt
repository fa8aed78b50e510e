-- What follows from the definitions.
pub mod Decimal
pub mod Written
pub mod Firsts
pub mod Cases
pub mod Held
