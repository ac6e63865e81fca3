pub mod Apart
pub mod Handing
pub mod RowLaws
pub mod Arms
pub mod Ways
pub mod ListWays
