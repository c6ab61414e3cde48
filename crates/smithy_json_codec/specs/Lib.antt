-- to be believed, in this order
pub mod WrittenNumber
pub mod Canonical
pub mod WireSettings
pub mod ContainerSize
-- for contracts
pub mod Cursor
pub mod Writing
pub mod Serializing
pub mod NamedDocument
pub mod NamedReading
-- the laws of reading, and that the calls of writing nest
pub mod Nesting
-- for private clauses, and for the laws
pub mod Private
