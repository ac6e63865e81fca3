pub mod Swept
pub mod Scope
pub mod Sweeps
