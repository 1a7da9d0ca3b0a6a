pub mod ListFilled
pub mod ReadAnswers
pub mod HeldFast
pub mod CallsCompose
