-- The request service phase of G(IP)2C for one group, to be read in this order beside request 12. Nothing is proved
-- here. Assumes nothing.
pub mod Limits
pub mod Refusals
pub mod Groups
pub mod Blocking
pub mod Sound
pub mod Events
pub mod History
