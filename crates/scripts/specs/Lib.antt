-- What a reader must believe of message managers; behind that, what holds of each of them (`Valid`).
pub mod Limits
pub mod Value
pub mod Sums
pub mod Effect
pub mod Existence
pub mod Ending
pub mod State
pub mod Frame
pub mod Manager
pub mod Valid
