pub mod Rules
pub mod Registers
pub mod Allowed
pub mod Views
pub mod Laws
pub mod Feeds
