pub mod ReadLine
pub mod InBlocks
pub mod FirstLine
pub mod OpenLine
pub mod HeldFast
