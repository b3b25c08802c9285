-- What a reader must believe of what is printed.
pub mod Text
pub mod Lines
