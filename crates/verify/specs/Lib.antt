pub mod Verify
pub mod Said
