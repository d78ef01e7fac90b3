mod Spared
mod Tallies
pub mod Withouts
