-- What holds of groups. Assumes nothing.
pub mod Searches
pub mod Facts
pub mod Committed
pub mod Follow
pub mod Stacks
pub mod Keeping
pub mod Entry
pub mod Call
pub mod Reply
pub mod Leave
pub mod Accepted
pub mod Steps
pub mod Waiting
pub mod Theorems
pub mod Cases
pub mod TellAnswers
pub mod TellSound
