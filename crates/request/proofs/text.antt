-- What the proofs of this module's functions share.
pub mod Digits
pub mod Put
