-- The definitions that the contracts cite.
pub mod Strings
pub mod Minutes
pub mod Trimble
