pub mod Tested
pub mod Posed
pub mod Typed
