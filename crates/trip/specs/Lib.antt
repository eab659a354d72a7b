pub mod Steps
pub mod Narrowed
