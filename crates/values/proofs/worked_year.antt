-- What the proof of `write_year` uses.
pub mod WorkedAnswers
