mod Chains
pub mod Lawfuls
