-- The definitions that the contracts and the main results cite.
pub mod Layout
pub mod Places
pub mod Text
pub mod Meinberg
pub mod Picture
pub mod Says
pub mod Lines
