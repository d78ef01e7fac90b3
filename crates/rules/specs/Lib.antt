pub mod Legs
pub mod Sorts
pub mod Rules
pub mod Lawful
