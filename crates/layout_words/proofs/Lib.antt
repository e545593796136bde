-- Laws of the definitions.
pub mod MapLaws
pub mod ByteLaws
pub mod WordLaws
pub mod TestLaws
pub mod SampleLaws
pub mod FlagLaws
pub mod PairLaws
