pub mod Named
pub mod Finalized
pub mod Generalized
pub mod Naming
pub mod Tested
pub mod Generalizes
