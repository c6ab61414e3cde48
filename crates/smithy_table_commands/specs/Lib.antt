-- to be believed, in this order
pub mod Command
pub mod Status
pub mod RunAnswer
pub mod System
-- what the types of the program stand for
pub mod Views
