-- Laws of the order of names, of counting rows, of moving numbers up, and of both passes.
pub mod Less
pub mod Tallies
pub mod Moves
pub mod Gathering
