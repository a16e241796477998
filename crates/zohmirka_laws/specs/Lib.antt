pub mod Promises
pub mod CallLists
pub mod Sheets
