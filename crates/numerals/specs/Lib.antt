-- A field's text as a number. Nothing is proved here.
pub mod Numbers
pub mod Plain
