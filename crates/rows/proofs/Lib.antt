pub mod Counts
pub mod Stretches
pub mod RunLaws
pub mod Rules
pub mod Endings
pub mod ChunkLaws
pub mod RangeLaws
