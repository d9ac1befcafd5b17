pub mod Patterns
pub mod Truths
pub mod Chains
pub mod Entering
pub mod Openings
pub mod Proposals
pub mod Solving
