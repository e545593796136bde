-- Laws of the definitions, and the main results.
pub mod LayoutLaws
pub mod PlacesLaws
pub mod PartLaws
pub mod PictureLaws
pub mod SaysLaws
pub mod TextLaws
pub mod AcceptLaws
pub mod ExactLaws
pub mod LinesLaws
pub mod WriteLaws
pub mod DecideLaws
pub mod Theorems
