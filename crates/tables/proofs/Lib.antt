pub mod Adding
pub mod Entries
pub mod HeldFast
pub mod WorkedSteps
