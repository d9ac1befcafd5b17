pub mod FourWords
pub mod Counts
pub mod Triangles
pub mod Leads
pub mod Solved
pub mod Reductions
