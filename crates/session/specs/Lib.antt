pub mod Fits
pub mod Standing
pub mod Sessions
pub mod Views
pub mod Dialogues
pub mod Leaders
pub mod Judgements
pub mod Lent
