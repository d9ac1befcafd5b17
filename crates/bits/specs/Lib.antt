pub mod Rows
pub mod Words
pub mod Lists
pub mod Digits
