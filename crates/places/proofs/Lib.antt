-- What holds of queues in places, for any number of places. Assumes nothing.
pub mod Turns
pub mod Pads
pub mod Queues
pub mod Tests
pub mod Cases
