pub mod Digits
pub mod RowLaws
pub mod Words
pub mod Searches
pub mod WalkLaws
