-- To be believed, in this order.
pub mod Codec
pub mod Canonical
-- For contracts.
pub mod Lengths
pub mod Writing
pub mod Prefixes
pub mod Body
-- The laws of reading, and that the calls of writing nest.
pub mod Nesting
pub mod PrefixNesting
pub mod Private
