-- to be believed, in this order
pub mod Escape
pub mod ValueTexts
pub mod DocumentMeaning
pub mod DocumentText
-- what contracts see of a type
pub mod Appending
pub mod Writer
-- for private clauses
pub mod Private
