-- Laws of a page's text.
pub mod Fits
pub mod Answers
