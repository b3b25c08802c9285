-- What every state that a run reaches has: fork stamps form a forest, levels keep their limits, write stamps never fall, numbers
-- are handed out upward.
pub mod Rank
pub mod Tree
pub mod Forest
pub mod Entries
pub mod Change
pub mod Forks
pub mod Preserved
pub mod Measure
pub mod Bounded
pub mod WriteStamps
pub mod Became
pub mod Contained
pub mod State
pub mod Versions
pub mod Ways
pub mod Handed
pub mod AnySteps
