-- What the proofs of invoke, reply and abort stand on: the answers, and the charges and keys after.
pub mod Charges
pub mod Keys
pub mod Refusing
pub mod Cases
pub mod Replying
