-- What the proofs of this crate and of callers use.
pub mod Places
pub mod Leaves
pub mod Arms
pub mod Ways
pub mod Freshly
