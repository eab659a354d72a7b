pub mod Pages
pub mod Walks
pub mod Items
pub mod Verdicts
pub mod Fetch
