pub mod Functions
pub mod Meeting
pub mod Raising
pub mod Gathering
pub mod Closing
pub mod Returned
