pub mod LocalTime
pub mod HeldFast
