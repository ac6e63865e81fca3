pub mod Cuts
pub mod Ends
pub mod Joins
pub mod Lets
pub mod Literals
pub mod Seen
