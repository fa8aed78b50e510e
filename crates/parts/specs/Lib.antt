-- A gate's parts, and what they show of the rules. Nothing is proved here.
pub mod Parts
pub mod Shows
