pub mod Slips
pub mod Tables
pub mod Calls
pub mod History
pub mod Promise
pub mod View
