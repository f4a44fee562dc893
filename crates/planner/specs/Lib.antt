pub mod Choices
pub mod Commands
pub mod Partners
pub mod Trials
pub mod Troubles
