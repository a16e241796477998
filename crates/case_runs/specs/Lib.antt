pub mod CaseRuns
pub mod Comparing
