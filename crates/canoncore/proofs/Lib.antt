pub mod Arms
pub mod Ways
pub mod ListWays
pub mod TypeWays
pub mod RowWays
