pub mod Places
pub mod Steps
pub mod Sinks
pub mod HeldRows
pub mod Counted
pub mod RunPlaces
pub mod RawRuns
pub mod Shown
