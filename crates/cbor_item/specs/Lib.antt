-- To be believed, in this order.
pub mod Head
pub mod Item
pub mod WellFormed
pub mod CutShort
pub mod Fault
pub mod Strings
pub mod Kind
-- What contracts see of a type, and what calls say of their answers.
pub mod HeadView
pub mod Answer
pub mod Writing
-- For private clauses.
pub mod Private
