pub mod Every
pub mod Whole
pub mod HeldFast
pub mod Stored
pub mod Indexed
pub mod Answers
pub mod InOrder
pub mod AnswerFacts
