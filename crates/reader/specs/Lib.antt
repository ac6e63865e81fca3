pub mod Bytes
pub mod Verdicts
pub mod Placing
