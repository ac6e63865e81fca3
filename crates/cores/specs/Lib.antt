pub mod Parts
pub mod Binders
pub mod Terms
