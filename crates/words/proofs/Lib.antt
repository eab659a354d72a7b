pub mod SpliceLaws
pub mod WordLaws
pub mod CombineLaws
pub mod CutLaws
pub mod JoinLaws
pub mod SameLaws
