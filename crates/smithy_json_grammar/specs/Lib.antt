-- to be believed, in this order
pub mod Ascii
pub mod Tree
pub mod Grammar
pub mod Number
pub mod NumberGrammar
pub mod HeldNumber
pub mod Unescape
pub mod StringText
pub mod Stops
pub mod Standing
pub mod FoundString
-- what contracts see of a type
pub mod EscapedText
pub mod NumberText
pub mod Private
