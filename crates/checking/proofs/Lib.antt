-- What is proved of a checker of traces.
pub mod Exact
pub mod Cases
pub mod Same
pub mod Verdicts
pub mod Steps
