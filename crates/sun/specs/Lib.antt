pub mod YearAndDay
pub mod Moved
pub mod Said
pub mod Walks
pub mod Worked
