pub mod Growing
pub mod Storing
pub mod Seeing
pub mod Ordering
pub mod Mapping
pub mod Arranging
pub mod Closing
pub mod HalfLists
