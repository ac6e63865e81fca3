pub mod Numbers
pub mod TypeViews
pub mod ExprViews
pub mod DeclViews
