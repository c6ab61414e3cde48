pub mod AnswerLemmas
pub mod AsBox
pub mod FindingLemmas
pub mod ReadingLemmas
pub mod Tables
pub mod TaskLemmas
pub mod Texts
