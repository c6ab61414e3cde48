-- to be believed, in this order
pub mod Tokens
pub mod TokenRules
pub mod TokenRuns
-- what contracts see of a type
pub mod TokenView
pub mod IteratorView
pub mod Faults
pub mod TokenSteps
pub mod Skipping
pub mod ContainerSize
pub mod DocumentSteps
pub mod Expecting
pub mod ExpectingTexts
-- for private clauses
pub mod Private
