pub mod Reports
pub mod ReportCases
