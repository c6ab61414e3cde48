-- That the prefix of rows is an entry.
pub mod MarkEntry
