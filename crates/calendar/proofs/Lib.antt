-- Laws of the definitions, and the main results.
pub mod DateLaws
pub mod DaysLaws
pub mod SignedLaws
pub mod WeekdayLaws
pub mod ValidLaws
pub mod RepresentableLaws
pub mod RulesLaws
pub mod MidnightLaws
pub mod Theorems
