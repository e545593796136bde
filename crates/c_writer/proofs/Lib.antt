-- Laws of writing from numbers.
pub mod WriteLaws
pub mod WritersLaws
