pub mod Pieces
pub mod Narrows
pub mod RunCounts
pub mod Alike
pub mod Consecutives
