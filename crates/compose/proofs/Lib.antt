-- Laws that the proofs of several functions use.
pub mod Orders
pub mod Pieces
pub mod Placed
pub mod Moved
pub mod Joined
pub mod Agreeing
pub mod Values
pub mod Hand
