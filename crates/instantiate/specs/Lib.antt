pub mod Taken
pub mod Opened
pub mod Instance
pub mod Cored
pub mod Looked
pub mod Looks
