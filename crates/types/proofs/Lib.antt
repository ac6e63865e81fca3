pub mod Decode
pub mod Counting
pub mod Rooms
pub mod Growing
pub mod Anywhere
