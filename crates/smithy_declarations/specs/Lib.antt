-- to be believed, in this order
pub mod Table
pub mod Documents
pub mod Value
pub mod Names
pub mod Decl
pub mod TableText
pub mod Acceptance
-- for contracts
pub mod TimeForms
-- what the types of the program stand for
pub mod DeclViews
pub mod Private
