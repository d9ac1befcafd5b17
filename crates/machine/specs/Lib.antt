pub mod Linear
pub mod OnLists
