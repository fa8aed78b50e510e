-- What the steps of a replay leave. Nothing is proved here.
pub mod Steps
