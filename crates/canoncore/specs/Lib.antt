pub mod Lettered
pub mod RowsReady
