pub mod HeldFast
pub mod ReturnTrips
pub mod WhichBook
pub mod NoRefusal
