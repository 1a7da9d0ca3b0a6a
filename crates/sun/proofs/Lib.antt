pub mod HeldFast
pub mod PassedUp
