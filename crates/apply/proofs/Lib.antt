-- Laws of answers that may refuse, for `apply` and for callers; of the meaning of `apply_type`; and the ways out.
pub mod Hand
pub mod Seen
pub mod Buts
pub mod Arms
pub mod Ways
