pub mod RowSets
pub mod Turns
pub mod Loop
pub mod Means
pub mod Seen
