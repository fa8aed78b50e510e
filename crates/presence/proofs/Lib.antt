-- What the tests of presence stand on.
pub mod Here
pub mod Cases
