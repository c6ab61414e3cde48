-- what the status of each step says
pub mod Stages
