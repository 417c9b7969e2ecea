pub mod PackedLemmas
pub mod WindowLemmas
pub mod WordLemmas
pub mod WidthLemmas
pub mod WriteLemmas
pub mod PackingLemmas
pub mod ExtremeLemmas
pub mod ItemLemmas
pub mod SpareLemmas
pub mod GroupLemmas
mod EndLemmas
mod PlaceLemmas
mod RowLemmas
mod FewPlaceLemmas
mod LaneLemmas
mod RaisedLemmas
mod BroughtLemmas
mod InPlaceLemmas
