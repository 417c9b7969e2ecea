mod IdLemmas
mod WordLemmas
mod LookLemmas
mod DraftLemmas
mod CallLemmas
mod StepLemmas
