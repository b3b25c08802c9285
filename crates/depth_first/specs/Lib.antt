-- What the contracts of the depth-first run's own functions cite.
pub mod Runs
