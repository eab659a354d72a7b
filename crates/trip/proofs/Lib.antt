pub mod Asked
pub mod Combined
