-- to be believed, in this order
pub mod TreeMembers
pub mod Writes
pub mod Requests
pub mod LineBodies
pub mod Replayed
-- for private clauses
pub mod Private
