-- Safe steps: a class of steps that contains the allowed ones and the depth-first order, and that commute.
pub mod Safe
pub mod Asked
pub mod Reads
pub mod Delay
pub mod SafeCommute
