pub mod Fill
pub mod Read
