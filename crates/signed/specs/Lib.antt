-- The definitions that the contracts cite.
pub mod Signed
pub mod Offset
