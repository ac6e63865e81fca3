pub mod Numbers
pub mod Loops
pub mod Tags
pub mod Bodies
