-- A log exported as comma-separated lines. Nothing is proved here.
pub mod Exporting
