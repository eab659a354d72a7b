pub mod PartRows
pub mod Cutting
pub mod Shown
