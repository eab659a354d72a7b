pub mod Words
pub mod Left
pub mod Reads
