-- The test is exact. What it says of a gate, what makes it true, and gates to try it on. Assumes nothing.
pub mod Joined
pub mod Sets
pub mod Facts
pub mod Stands
pub mod ToSound
pub mod ShownStands
pub mod FromSound
pub mod Exact
pub mod Tidying
pub mod Cases
pub mod DeadlineCases
