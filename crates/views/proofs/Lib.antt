pub mod Onward
pub mod Listings
pub mod TypeLaws
pub mod ExprLaws
pub mod DeclLaws
pub mod Earlier
