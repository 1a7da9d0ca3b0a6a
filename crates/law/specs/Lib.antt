pub mod Sines
pub mod Tangents
pub mod Entry
pub mod Round
pub mod Document
pub mod Index
pub mod Request
pub mod Book
