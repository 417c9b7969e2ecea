mod NumberLemmas
mod ValueLemmas
mod SignedLemmas
mod LowerLemmas
mod DigitLemmas
mod AddressLemmas
mod HeadingLemmas
