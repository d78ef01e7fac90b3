pub mod Lots
pub mod Broken
pub mod Tally
