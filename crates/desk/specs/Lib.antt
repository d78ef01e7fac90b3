pub mod Present
pub mod Sheets
pub mod Answers
