-- What a step answers. Nothing is proved here.
pub mod Stepped
