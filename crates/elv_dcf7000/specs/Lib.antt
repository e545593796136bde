-- The definitions that the contracts and the main results cite.
pub mod Elv
pub mod Says
pub mod Accepts
pub mod Lines
