-- Comma-separated lines imported as a log, to be read in this order. Nothing is proved here.
pub mod Sheets
pub mod Importing
pub mod Parts
