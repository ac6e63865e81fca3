pub mod Metered
pub mod Written
pub mod Starred
pub mod Worked
pub mod Corners
pub mod Fields
pub mod Bytes
pub mod Files
