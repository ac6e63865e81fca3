-- Laws of the constant table, of the types' nodes, and of the rows that are written.
pub mod Rowed
pub mod Typed
pub mod Added
