-- to be believed, in this order
pub mod Declaring
pub mod Naming
pub mod Bindings
pub mod Roles
pub mod Leaving
pub mod Outcomes
pub mod Wanted
pub mod Reaching
pub mod ModelTable
pub mod Refusals
-- what the types stand for
pub mod Views
-- words for private functions
pub mod Finding
pub mod Marking
pub mod Visiting
pub mod Taken
