pub mod Fronts
pub mod Shown
