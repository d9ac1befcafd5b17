pub mod Ranges
pub mod Responses
