-- Laws of the definitions, and the main results.
pub mod MarkLaws
pub mod NumberLaws
pub mod CheckLaws
pub mod SaysLaws
pub mod LinesLaws
pub mod AcceptLaws
pub mod BitLaws
pub mod FieldsLaws
pub mod SameLaws
pub mod FitLaws
pub mod TextLaws
pub mod WriteLaws
pub mod SpellLaws
pub mod SixtyMarksLaws
pub mod Theorems
