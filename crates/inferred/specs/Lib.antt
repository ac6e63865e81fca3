pub mod Closed
pub mod Inferred
pub mod Parts
pub mod Closing
pub mod Inferring
