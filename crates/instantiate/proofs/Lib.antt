-- What the proofs of this crate and of callers use.
pub mod RowWords
pub mod Taking
pub mod Making
pub mod Finding
pub mod Listing
pub mod Coring
pub mod Looking
pub mod Seen
