-- What the proofs of `find` and of callers use.
pub mod Looks
pub mod Frames
pub mod OnePair
pub mod Start
