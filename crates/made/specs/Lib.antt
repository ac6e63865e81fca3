pub mod Made
pub mod Making
