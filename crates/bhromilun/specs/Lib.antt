pub mod Told
pub mod Columns
pub mod Reckoning
pub mod Books
