pub mod Programs
pub mod FirstChecks
pub mod ProgramCases
