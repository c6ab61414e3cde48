pub mod MemberNames
pub mod Placed
pub mod Sought
pub mod KnownMembers
