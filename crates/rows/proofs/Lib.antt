-- Laws of rows, of their names as a list, and of the built-in names.
pub mod Cells
pub mod Listed
pub mod Start
