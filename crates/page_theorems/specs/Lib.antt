-- What is proved of every page.
pub mod Pages
