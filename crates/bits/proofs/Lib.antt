-- Laws of the bits of numbers.
pub mod ByteLaws
