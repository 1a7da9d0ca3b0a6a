-- What the proof of `half_up` uses.
pub mod Rounds
