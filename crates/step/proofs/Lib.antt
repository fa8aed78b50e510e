-- What the doors' proofs stand on: an event on a sound gate answers as the rules do, and leaves a sound gate.
pub mod Doors
mod GivenCases
pub mod Shown
