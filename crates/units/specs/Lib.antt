pub mod IndexAnswers
pub mod Said
