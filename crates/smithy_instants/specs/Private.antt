pub mod FrontLength
pub mod Dates
