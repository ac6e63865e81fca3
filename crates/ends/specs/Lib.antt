pub mod Joined
pub mod Ended
pub mod Ends
