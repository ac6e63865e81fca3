pub mod AppliedQual
pub mod Preds
pub mod Quals
pub mod Schemes
