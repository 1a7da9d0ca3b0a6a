-- What the proofs of this module's functions share: the working forms as document 01's answers, and a year and day together.
pub mod Places
pub mod YearAndDay
pub mod Midnights
