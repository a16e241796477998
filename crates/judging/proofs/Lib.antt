pub mod SeenLaws
pub mod JudgeLaws
