pub mod OfAssumeRoleRequest
pub mod OfAssumeRoleResponse
pub mod OfAssumedRoleUser
pub mod OfCredentials
pub mod OfTag
