pub mod Sums
pub mod Bitwise
pub mod Lists
pub mod Arrays
