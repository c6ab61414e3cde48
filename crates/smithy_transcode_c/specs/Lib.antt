-- to be believed, in this order
pub mod Refusals
pub mod Numbers
pub mod Calls
pub mod Bodies
pub mod Comparing
pub mod Finding
pub mod Reading
pub mod Tasks
-- what a table in the hands of C owns
pub mod Owned
-- the roots of tasks
pub mod Rooted
-- what the types of the library stand for
pub mod Views
