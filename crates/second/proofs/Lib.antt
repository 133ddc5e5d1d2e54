-- Laws.
pub mod SecondChecks
pub mod Headers
