pub mod Settled
pub mod Settles
pub mod Answers
