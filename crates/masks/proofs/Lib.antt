pub mod SpareLaws
pub mod StoreLaws
pub mod RunsLeft
