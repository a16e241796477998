pub mod BackLaws
pub mod LentLaws
pub mod CommonLaws
pub mod PlacedLaws
pub mod SpanLaws
pub mod WindowLaws
pub mod FitLaws
pub mod SurveyLaws
