-- To be believed, in this order.
pub mod Settings
pub mod Scalar
pub mod Meaning
pub mod Spelling
pub mod Openers
pub mod Wide
pub mod Uncarried
pub mod ContainerSize
-- For contracts.
pub mod Standing
-- The laws of reading, and that the calls of writing nest.
pub mod Laws
-- For private clauses, and for the laws.
pub mod Borrowed
pub mod Private
