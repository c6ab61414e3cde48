-- to be believed, in this order
pub mod TableLines
pub mod Writable
-- words for private functions
pub mod Comparing
pub mod Parts
