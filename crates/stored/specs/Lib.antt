pub mod Rows
pub mod Makes
pub mod Ends
pub mod Shown
