pub mod Nodes
pub mod Pairs
pub mod Determined
pub mod Places
pub mod EntrySteps
pub mod Folds
pub mod Containers
pub mod Lifting
pub mod Fitting
-- how many values stand where nodes lie
pub mod CountingNodes
pub mod CountingDocuments
pub mod CountingContainers
pub mod CountingValues
