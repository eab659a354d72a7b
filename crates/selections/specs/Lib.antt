pub mod Forms
pub mod States
