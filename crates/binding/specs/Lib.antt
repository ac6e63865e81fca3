pub mod General
pub mod Rest
