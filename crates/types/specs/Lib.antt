pub mod Types
pub mod Sizes
pub mod Taking
