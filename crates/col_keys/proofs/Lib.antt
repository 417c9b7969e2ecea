pub mod EndLemmas
pub mod FooterLemmas
pub mod ItemLemmas
pub mod KeyLemmas
pub mod PutLemmas
pub mod StandLemmas
