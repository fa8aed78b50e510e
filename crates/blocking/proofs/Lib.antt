-- That sets of servers tell who blocks whom. Assumes nothing.
pub mod Shape
pub mod Tickets
pub mod Found
pub mod Blocking
pub mod Delegates
pub mod Cases
