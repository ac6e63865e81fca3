pub mod Accepted
pub mod Tried
pub mod Picked
pub mod Truth
pub mod Apart
pub mod Picks
