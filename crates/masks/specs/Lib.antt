pub mod Spares
pub mod Stores
pub mod Left
pub mod Written
pub mod Shown
