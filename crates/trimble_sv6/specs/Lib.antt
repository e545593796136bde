-- The definitions that the contracts and the main results cite.
pub mod Sum
pub mod Trimble
pub mod Says
pub mod Accepts
pub mod Lines
