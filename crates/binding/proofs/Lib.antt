pub mod AfterEnv
pub mod AfterRows
pub mod Seen
