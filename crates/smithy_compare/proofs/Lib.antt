pub mod Heights
mod Walks
-- a value is known from its tree
pub mod Back
-- the laws of the first path
pub mod Alike
pub mod Laws
-- what a first path names
mod Ordered
mod Naming
mod Answers
mod PathTexts
