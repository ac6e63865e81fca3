-- What the proofs of this crate and of callers use.
pub mod Plain
pub mod Ways
pub mod Arms
