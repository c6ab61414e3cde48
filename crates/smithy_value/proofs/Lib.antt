mod CountedValues
mod HalfElements
mod HalfMembers
mod HalfRead
mod KeyAnswers
mod Made
pub mod Maps
mod PoolTrees
mod ReadAnswers
mod ReadDeep
mod ReadItems
mod ReadMembers
mod ReadRuns
mod ReadScalars
mod ReadTrees
mod ReadTypes
mod ReadViews
pub mod ReadWide
pub mod Standing
pub mod Structures
pub mod Unions
pub mod WriteAnswers
