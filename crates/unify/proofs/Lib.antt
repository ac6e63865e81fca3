-- What the proofs of the functions use, from outcomes to the ways out of each.
pub mod Outcomes
pub mod Hand
pub mod Binding
pub mod Twice
pub mod Single
pub mod Zip
pub mod Sides
pub mod Ways
pub mod Means
pub mod Seen
