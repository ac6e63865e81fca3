-- What the proofs of this crate and of callers use.
pub mod VarLaws
pub mod Bound
