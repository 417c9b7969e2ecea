pub mod NumberLemmas
pub mod FormLemmas
pub mod FieldLemmas
pub mod JoinedLemmas
pub mod DocumentLemmas
pub mod ParsedLemmas
pub mod AddressLemmas
pub mod TimeLemmas
