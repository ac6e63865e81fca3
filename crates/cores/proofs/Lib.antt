pub mod Parted
pub mod BinderLaws
pub mod TermLaws
pub mod NewTerm
