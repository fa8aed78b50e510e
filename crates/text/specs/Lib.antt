-- Numbers as text, and text in a lent buffer. Nothing is proved here.
pub mod Text
