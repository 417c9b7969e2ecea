-- Times in UTC as texts.
use Rattle.std.proofs.Common.{◌≡◌, ◌==◌, ℕ, false, List, Ok, Err, refl, sym, ap, ◌∙◌, if◌then◌else◌}
use Rattle.std.specs.List.{list_any}
use Rattle.jiff.specs.Words.{civil_nanos, date_parts, time_parts, parse_datetime}
use Rattle.jiff_core.specs.declared.civil.datetime.DateTime.{DateTime}
use Rattle.jiff_fmt.specs.Temporal.{parts_nanos}
use Rattle.col_documents.specs.Numbers.{time_of_nanos}
use Rattle.col_documents.specs.Times.{opening_bracket, civil_time, time_of_parts}
use Rattle.col_documents.specs.declared.refusal.Reason.TheVariants as reasons

-- what a clock shows, by its parts
by_parts : (t : DateTime) → civil_nanos t ≡ parts_nanos (date_parts t.date) (time_parts t.time)
unfolding civil_nanos
by_parts t = refl

-- a time in UTC that was read
pub civil_read : (s : List ℕ) (t : DateTime) → list_any (λ b. b == opening_bracket) s ≡ false
    → Ok (date_parts t.date, time_parts t.time) ≡ parse_datetime s → time_of_nanos (civil_nanos t) ≡ civil_time s
civil_read s t none is =
    ap time_of_nanos (by_parts t) ∙ ap time_of_parts is
    ∙ ap (λ b. if b then Err reasons.Form else time_of_parts (parse_datetime s)) (sym none)
