pub mod Moved
pub mod Faults
pub mod Written
pub mod Process
