-- What the searches by rank stand on.
pub mod Ranks
pub mod Tops
pub mod Left
pub mod Best
pub mod Keeping
pub mod Cases
