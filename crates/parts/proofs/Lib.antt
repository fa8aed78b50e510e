-- What a gate and its parts show, and how one part's change shows.
pub mod Reading
pub mod Laid
pub mod SoundShows
pub mod Turns
pub mod Fits
pub mod Parts
pub mod Keys
pub mod Cases
