pub mod SixReads
pub mod ReadSoFar
pub mod RefusalLines
pub mod TwoDigits
