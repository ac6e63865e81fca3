-- What the proofs of this crate and of callers use.
pub mod PredLaws
pub mod PredWays
pub mod QualWays
pub mod SchemeWays
pub mod Wholes
