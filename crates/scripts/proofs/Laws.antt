-- Laws of a manager: what a script step may change. The runs cite these, not the text of the step.
pub mod Existence
pub mod Charged
pub mod Counts
pub mod Effects
pub mod Endings
pub mod Send
pub mod Settle
pub mod Reads
pub mod Stack
pub mod Within
pub mod Writes
pub mod Accepted
pub mod Valid
