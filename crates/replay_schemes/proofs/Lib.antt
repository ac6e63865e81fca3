pub mod Ways
pub mod Lines
