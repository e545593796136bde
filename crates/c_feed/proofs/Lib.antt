-- Laws of the feed over a state of bytes, and its main results.
pub mod FeedLaws
pub mod StateLaws
pub mod EventLaws
pub mod GoesOnLaws
pub mod Theorems
