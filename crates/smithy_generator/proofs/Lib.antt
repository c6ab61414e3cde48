mod Steps
mod PlainTexts
mod Members
mod Items
mod Texts
pub mod Tables
mod Meanings
pub mod Passes
