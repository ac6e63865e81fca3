-- What the proofs of this crate and of callers use.
pub mod EntryLaws
pub mod Envs
pub mod Fines
pub mod Laws
pub mod Sweeping
pub mod FreeLaws
pub mod States
pub mod Empties
pub mod Seen
