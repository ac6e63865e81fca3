pub mod Renaming
pub mod Renamed
