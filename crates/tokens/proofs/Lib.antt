pub mod Cuts
pub mod Digits
pub mod Lists
pub mod Pairs
