-- What the proofs of this module's functions share.
pub mod Feeding
