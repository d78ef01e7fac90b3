pub mod Holdings
pub mod Limits
pub mod Listings
pub mod Sides
pub mod Texts
