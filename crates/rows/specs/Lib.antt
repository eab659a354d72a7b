pub mod Items
pub mod Rows
pub mod Rules
pub mod Chunks
pub mod Said
pub mod Ranges
