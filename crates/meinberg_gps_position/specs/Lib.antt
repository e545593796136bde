-- The definitions that the contracts and the main results cite.
pub mod Aligned
pub mod Position
pub mod Rules
