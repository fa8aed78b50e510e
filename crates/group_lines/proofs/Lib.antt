-- One line, the end of an input, and inputs in parts: however an input is cut, what is told is the same. Assumes
-- nothing.
pub mod Lines
pub mod Taking
pub mod Ending
pub mod Buffers
pub mod Parts
pub mod Cases
