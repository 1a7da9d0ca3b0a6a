pub mod Said
pub mod Reader
pub mod Shown
