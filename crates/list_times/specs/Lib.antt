-- The definitions that the contracts cite.
pub mod Progress
pub mod Request
