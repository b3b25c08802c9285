-- What a reader must believe of the message filter.
pub mod Filter
