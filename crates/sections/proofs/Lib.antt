pub mod Places
pub mod Going
