-- The definitions that the contracts cite.
pub mod Date
pub mod Days
pub mod TimeOfDay
pub mod UnixTime
pub mod Representable
pub mod Rules
