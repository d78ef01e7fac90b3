pub mod Sheet
pub mod Book
