pub mod WordLemmas
mod AddressLemmas
mod StepLemmas
mod ParseLemmas
