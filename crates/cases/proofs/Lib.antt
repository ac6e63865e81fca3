-- Laws that the proofs of several functions use.
pub mod Apart
pub mod Falling
pub mod Tested
pub mod Rowed
