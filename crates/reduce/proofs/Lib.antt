pub mod Seen
-- Laws that the proofs of several functions use.
pub mod Ones
pub mod Marks
pub mod Loops
pub mod Means
