pub mod Growing
pub mod Adding
pub mod Method
