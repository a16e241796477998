pub mod PlacingLaws
pub mod ShapeLaws
pub mod Answers
pub mod SurveyLaws
pub mod BoxingLaws
