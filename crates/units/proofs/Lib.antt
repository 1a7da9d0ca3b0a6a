pub mod Circle
pub mod Clock
pub mod IndexAnswers
pub mod Machine
pub mod HeldFast
pub mod Callers
pub mod Counts
