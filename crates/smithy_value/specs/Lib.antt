-- what a value stands for
pub mod View
-- what reads and writes of a value say of their answers
pub mod DuePlaces
pub mod ReadValue
pub mod ReadTree
pub mod WriteValue
-- trees in any store: what one is at its root, how they are built, and those of a pool
pub mod Tree
pub mod Building
pub mod Pooled
pub mod PoolLaws
-- for private clauses
pub mod Private
