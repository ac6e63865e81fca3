pub mod Ranges
pub mod Laws
pub mod NewNode
pub mod Join
pub mod Walks
pub mod Stands
