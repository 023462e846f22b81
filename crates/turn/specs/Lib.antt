pub mod Items
pub mod Turn
