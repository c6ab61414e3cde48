-- to be believed, in this order
pub mod Settings
pub mod Codec
pub mod Scalar
pub mod Meaning
pub mod Spelling
pub mod Openers
pub mod Wide
pub mod Uncarried
-- for contracts
pub mod Spans
pub mod Tokens
pub mod TypeMismatch
pub mod LexicalGrammar
pub mod Standing
pub mod Deepest
pub mod Documents
pub mod NumberText
-- the laws of reading, and that the calls of writing nest
pub mod Laws
-- for private clauses, and for the laws
pub mod Borrowed
pub mod Private
