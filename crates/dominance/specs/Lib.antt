-- What a reader must believe of levels.
pub mod Order
pub mod Join
pub mod Meet
pub mod Table
