pub mod Frames
pub mod Fits
pub mod Loads
pub mod Memory
pub mod Runs
pub mod Responses
pub mod Views
