-- What the charging's proofs stand on.
pub mod Building
pub mod Waiting
pub mod Charging
pub mod Growing
pub mod Cases
