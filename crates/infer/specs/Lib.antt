pub mod Runs
pub mod Asking
