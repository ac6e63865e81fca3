-- Laws of one name, of the loops over names, and of the whole table.
pub mod Entry
pub mod Taking
pub mod Spotting
pub mod Going
pub mod Numbers
pub mod Whole
