pub mod MemberLemmas
pub mod RequestLemmas
pub mod WritesLemmas
pub mod NoFeedTexts
pub mod NoFeedForms
pub mod NoFeedBodies
pub mod LineLemmas
