-- Words that private clauses cite.
pub mod FitsOnce
pub mod LineAnswers
