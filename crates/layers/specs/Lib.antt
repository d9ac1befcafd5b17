pub mod Shifter
pub mod Delayed
pub mod Views
pub mod Delays
pub mod Mixes
