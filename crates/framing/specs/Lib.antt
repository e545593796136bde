-- The definitions that the contracts and the theorems of the serial feed cite.
pub mod Step
pub mod Feed
pub mod Run
pub mod Steps
pub mod Framed
