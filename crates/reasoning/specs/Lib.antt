pub mod Answer
pub mod InOrder
