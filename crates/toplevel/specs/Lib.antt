pub mod Checked
pub mod Bound
pub mod Parts
pub mod Tops
