-- What a line says. Nothing is proved here. Assumes nothing.
pub mod Says
