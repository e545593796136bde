-- Laws of the serial feed, and its main results.
pub mod StepLaws
pub mod FeedLaws
pub mod PlainLaws
pub mod StepsLaws
pub mod PartsLaws
pub mod FramedLaws
pub mod AlikeLaws
pub mod FoundLaws
pub mod Theorems
