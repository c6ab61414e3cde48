pub mod Containers
mod SetFields
mod ScalarReads
mod OneOf
mod Made
