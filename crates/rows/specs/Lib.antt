pub mod Courses
pub mod Boxing
pub mod Surveys
