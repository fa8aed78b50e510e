-- Words, numbers field by field, events, lines, and cases that compute. Assumes nothing.
pub mod Words
pub mod Numbers
pub mod Events
pub mod Lines
pub mod Cases
