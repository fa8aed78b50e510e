-- What the charging is promised in. Nothing is proved here.
pub mod Charged
