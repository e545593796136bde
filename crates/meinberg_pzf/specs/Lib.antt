-- The definitions that the contracts and the main results cite.
pub mod Pzf
pub mod Accepts
pub mod Says
pub mod Lines
