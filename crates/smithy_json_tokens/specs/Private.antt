pub mod Scans
pub mod Turns
pub mod Texts
pub mod Frames
