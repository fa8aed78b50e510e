-- What is seen one by one. Assumes nothing.
pub mod Queues
pub mod Once
pub mod Cases
