-- What the contracts of the scheduler's own functions cite.
pub mod Runs
