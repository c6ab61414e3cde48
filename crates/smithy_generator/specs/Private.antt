-- the tree of a generated input
pub mod GeneratedTree
