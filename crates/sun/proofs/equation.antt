-- What the proofs of this module's functions share: the working forms as document 01's answers.
pub mod Equations
pub mod AngleAnswers
pub mod BothLegs
pub mod NearerEnd
