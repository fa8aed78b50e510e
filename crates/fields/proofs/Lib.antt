-- What is shared by those who read a line field by field.
pub mod Cases
pub mod Fields
pub mod Placed
