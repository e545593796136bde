-- The definitions that the contracts and the main results cite.
pub mod Marks
pub mod Minute
pub mod Accepts
pub mod Numbers
pub mod Writable
pub mod Says
pub mod Lines
