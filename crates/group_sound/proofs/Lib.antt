-- That the test is the definition. Assumes nothing.
pub mod Shape
pub mod Times
pub mod Stacks
pub mod Contexts
pub mod Cases
