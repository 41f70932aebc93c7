pub mod Reports
pub mod Loading
pub mod Seeds
pub mod Commands
