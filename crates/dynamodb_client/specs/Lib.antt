pub mod Attributes
pub mod PutItem
