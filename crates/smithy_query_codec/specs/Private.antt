-- for the laws of writing
pub mod MadeStates
