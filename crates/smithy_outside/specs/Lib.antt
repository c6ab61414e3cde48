-- to be believed
pub mod Outside
pub mod Environment
pub mod Report
-- what the objects tell
pub mod Memory
pub mod Os
