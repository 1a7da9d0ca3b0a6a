pub mod WorkedCorrections
pub mod Decided
pub mod OneBook
pub mod CorrectionsFirst
pub mod HeldFast
