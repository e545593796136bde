-- What the contracts speak of: refusals in an order, the lines of each entry, what is accepted and as what, the
-- instant, the number at a place, and what is taken of a stream.
pub mod Refusals
pub mod Accepted
pub mod Lines
pub mod Trimble
pub mod Exactly
pub mod Instant
pub mod OutcomeAt
pub mod Streams
