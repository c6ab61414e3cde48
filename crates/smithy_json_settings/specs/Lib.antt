-- to be believed, in this order
pub mod Settings
