pub mod Rows
pub mod Swept
pub mod Owned
