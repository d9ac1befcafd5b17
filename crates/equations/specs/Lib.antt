pub mod Counting
pub mod Equations
pub mod Systems
