-- values one behind another
pub mod Items
-- what nodes stand for
pub mod Nodes
-- what a pool stands for, and how it grows
pub mod Seen
-- how the children of a container are ordered
pub mod Order
