pub mod Corrections
pub mod Said
pub mod Parts
pub mod Shown
