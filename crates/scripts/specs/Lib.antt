pub mod Grammar
pub mod Args
pub mod Tails
pub mod Lines
