-- Words that private clauses cite.
pub mod HeadNumber
pub mod Finding
pub mod DecimalPlaces
