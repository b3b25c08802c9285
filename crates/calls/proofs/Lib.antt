pub mod RunCalls
pub mod Answering
pub mod ExistenceShown
pub mod Pairs
pub mod ProvedCases
pub mod Refusals
pub mod Paged
pub mod Printed
