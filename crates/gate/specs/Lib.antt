-- What a gate shows of the rules, and what is made of a setup. Nothing is proved here.
pub mod Shown
pub mod Made
pub mod Heard
