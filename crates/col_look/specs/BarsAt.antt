-- Bars by the counts of their places.
use Rattle.std.specs.Prelude.{ℕ, ℤ, ◌+◌, List, [], ◌∷◌}
use Rattle.col_look.specs.Bars.{bar_range}
use Rattle.col_look.specs.declared.bar.Bar.{Bar}

-- the bar of a place, with a count
abbrev pub bar_at : ℤ → ℕ → ℕ → ℕ → ℕ → Bar
bar_at least distance width place count =
    let range = bar_range least distance width place in
    record { first = range.0; last = range.1; count = count }

-- the bars of the places from one on, with these counts
abbrev pub bars_from : ℤ → ℕ → ℕ → ℕ → List ℕ → List Bar
bars_from least distance width place [] = []
bars_from least distance width place (n ∷ ns) =
    bar_at least distance width place n ∷ bars_from least distance width (place + 1) ns
