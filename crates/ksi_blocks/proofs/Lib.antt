pub mod SeedTexts
pub mod Outcomes
pub mod LogReports
pub mod Savings
