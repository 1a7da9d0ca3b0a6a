pub mod Reading
pub mod Texts
pub mod Stream
pub mod First
