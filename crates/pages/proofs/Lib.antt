pub mod PageLaws
pub mod FetchLaws
