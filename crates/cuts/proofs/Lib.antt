pub mod Pieces
pub mod Offsets
pub mod Lasts
