-- The bars are those of the cells of the numbers.
use Rattle.std.proofs.Common.{◌≡◌, suc, ◌+◌, ◌-◌, ◌/◌, ◌<◌, ◌==◌, ◌∷◌, [], length, map, sym, ◌∙◌, ap, ap₂, arith}
use Rattle.std.specs.List.{count_by}
use Rattle.std.proofs.lemmas.Result.{IfOk-weaker}
use Rattle.col_model.specs.Table.{number}
use Rattle.col_numbers.specs.NumValues.{num_values_of}
use Rattle.col_look.specs.Bars.{bars_between, bar_total}
use Rattle.col_look.specs.BarsAt.{bar_at, bars_from}
use Rattle.col_look.specs.Ends.{least_cell, greatest_cell}
use Rattle.col_look.specs.Places.{place_of}
use Rattle.col_look.proofs.drawn.number_bars.Goals as goal
use Rattle.col_look.proofs.drawn.number_bars.Goals.{then-count-eq1-via-then-count-eq1, then-count-eq1-via-else-count-eq1+then-distance-eq0}
use Rattle.col_look.proofs.DrawnLemmas.{bars-all, empty-bars, no-bars, no-cells, number-bars, one-drawn, placed-at, width-none, width-one}

pub returns-then-count-eq0-clause-ok : goal.returns-then-count-eq0-clause-ok
returns-then-count-eq0-clause-ok g c =
    let cells = map (λ x. number (g.T.LookNumber.number x)) (num_values_of c.args.values.now) in
    c.new.ensures.items ∙ sym (no-bars (least_cell cells) (greatest_cell cells) cells)
    ∙ ap (λ n. bars_between (least_cell cells) (greatest_cell cells) n cells) (sym c.if-count-eq0.true)

pub returns-then-num_vals-eq0-clause-ok : goal.returns-then-num_vals-eq0-clause-ok
returns-then-num_vals-eq0-clause-ok g c =
    let xs = num_values_of c.args.values.now in
    c.new-then-num_vals-eq0.ensures.items ∙ sym (empty-bars c.args.count (map (λ x. number (g.T.LookNumber.number x)) xs)
    (no-cells (λ x. number (g.T.LookNumber.number x)) xs (sym c.num_vals.ensures ∙ c.if-num_vals-eq0.true)))

pub returns-then-count-eq1-clause-ok : goal.returns-then-count-eq1-clause-ok
returns-then-count-eq1-clause-ok g c =
    let xs = num_values_of c.args.values.now in
    let lo = c.min_value-least.result in
    let hi = c.max_value.result in
    let told = c.values_are_in_type.ensures in
    let some : 0 < length xs = omega (arith, c.num_vals.ensures, c.if-num_vals-eq0.false) in
    let asked : 0 < c.args.count = omega (arith, c.if-count-eq0.false) in
    let d = c.to_u64.result - c.to_u64-2.result in
    let far : d ≡ g.T.MonotonicallyMappableToU64.code hi - g.T.MonotonicallyMappableToU64.code lo =
    ap₂ (λ a b. a - b) c.to_u64.ensures c.to_u64-2.ensures in
    let cells = map (λ x. number (g.T.LookNumber.number x)) xs in
    let whole : d / c.args.count ≡ d =
    elim c.then-count-eq1.branch [
      | then-count-eq1-via-then-count-eq1 w ↦ width-one c.args.count d w.if-count-eq1.true
      | then-count-eq1-via-else-count-eq1+then-distance-eq0 w ↦ width-none c.args.count d asked w.if-distance-eq0.true
    ] in
    IfOk-weaker c.one_bar.result
    (λ bars. bars.items ≡ bar_at (g.T.LookNumber.number lo) d (suc d) 0 c.num_vals-then-count-eq1.result ∷ [])
    (λ bars. bars.items ≡ bars_between (least_cell cells) (greatest_cell cells) c.args.count cells)
    (λ bars e. e ∙ one-drawn g.T.PartialOrd.partial_cmp g.T.MonotonicallyMappableToU64.in_type g.T.Default.is_default
    g.T.MonotonicallyMappableToU64.code g.T.LookNumber.number xs lo hi c.numbers_have_places.ensures told.values.each
    (told.values.least lo some c.min_value-least.ensures.value) (told.bounds lo hi c.min_value-least.ensures.value c.max_value.ensures.value)
    d c.num_vals-then-count-eq1.result c.args.count some asked far whole c.num_vals-then-count-eq1.ensures) c.one_bar.ensures

pub counts_of_places-requires-clause-placed : goal.counts_of_places-requires-clause-placed
counts_of_places-requires-clause-placed g c =
    let xs = num_values_of c.args.values.now in
    let lo = c.min_value-least.result in
    let hi = c.max_value.result in
    let told = c.values_are_in_type.ensures in
    let some : 0 < length xs = omega (arith, c.num_vals.ensures, c.if-num_vals-eq0.false) in
    let asked : 0 < c.args.count = omega (arith, c.if-count-eq0.false) in
    let d = c.to_u64.result - c.to_u64-2.result in
    let far : d ≡ g.T.MonotonicallyMappableToU64.code hi - g.T.MonotonicallyMappableToU64.code lo =
    ap₂ (λ a b. a - b) c.to_u64.ensures c.to_u64-2.ensures in
    placed-at g.T.PartialOrd.partial_cmp g.T.MonotonicallyMappableToU64.in_type g.T.Default.is_default
    g.T.MonotonicallyMappableToU64.code g.T.LookNumber.number xs lo hi c.numbers_have_places.ensures told.values.each
    (told.values.least lo some c.min_value-least.ensures.value) (told.bounds lo hi c.min_value-least.ensures.value c.max_value.ensures.value)
    c.to_u64-3.result _ d _ c.to_u64-3.ensures (omega arith) (omega arith) far

pub returns-clause-ok : goal.returns-clause-ok
returns-clause-ok g c =
    let xs = num_values_of c.args.values.now in
    let lo = c.min_value-least.result in
    let hi = c.max_value.result in
    let told = c.values_are_in_type.ensures in
    let some : 0 < length xs = omega (arith, c.num_vals.ensures, c.if-num_vals-eq0.false) in
    let asked : 0 < c.args.count = omega (arith, c.if-count-eq0.false) in
    let d = c.to_u64.result - c.to_u64-2.result in
    let far : d ≡ g.T.MonotonicallyMappableToU64.code hi - g.T.MonotonicallyMappableToU64.code lo =
    ap₂ (λ a b. a - b) c.to_u64.ensures c.to_u64-2.ensures in
    let w = d / c.args.count + 1 in
    let counts = c.in_ok-counts.counts.items in
    let cells = map (λ x. number (g.T.LookNumber.number x)) xs in
    IfOk-weaker c.bars_of_counts.result
    (λ bars. bars.items ≡ bars_from (g.T.LookNumber.number lo) d w 0 c.as_slice.result.now)
    (λ bars. bars.items ≡ bars_between (least_cell cells) (greatest_cell cells) c.args.count cells)
    (λ bars e. e ∙ ap (bars_from (g.T.LookNumber.number lo) d w 0) c.as_slice.ensures.value ∙ number-bars g.T.PartialOrd.partial_cmp g.T.MonotonicallyMappableToU64.in_type g.T.Default.is_default
    g.T.MonotonicallyMappableToU64.code g.T.LookNumber.number xs lo hi c.numbers_have_places.ensures told.values.each
    (told.values.least lo some c.min_value-least.ensures.value) (told.bounds lo hi c.min_value-least.ensures.value c.max_value.ensures.value)
    d w c.args.count counts some asked far (omega arith) (omega (arith, c.in_ok-counts.ensures.len))
    (λ i l. c.in_ok-counts.ensures.counts i (omega (arith, l, c.in_ok-counts.ensures.len))
    ∙ ap (λ b. count_by (λ x. place_of b w (g.T.MonotonicallyMappableToU64.code x) == i) xs) c.to_u64-3.ensures)) c.bars_of_counts.ensures

pub returns-clause-all : goal.returns-clause-all
returns-clause-all g c =
    let xs = num_values_of c.args.values.now in
    let lo = c.min_value-least.result in
    let hi = c.max_value.result in
    let told = c.values_are_in_type.ensures in
    let some : 0 < length xs = omega (arith, c.num_vals.ensures, c.if-num_vals-eq0.false) in
    let asked : 0 < c.args.count = omega (arith, c.if-count-eq0.false) in
    let d = c.to_u64.result - c.to_u64-2.result in
    let far : d ≡ g.T.MonotonicallyMappableToU64.code hi - g.T.MonotonicallyMappableToU64.code lo =
    ap₂ (λ a b. a - b) c.to_u64.ensures c.to_u64-2.ensures in
    let w = d / c.args.count + 1 in
    let counts = c.in_ok-counts.counts.items in
    IfOk-weaker c.bars_of_counts.result
    (λ bars. bars.items ≡ bars_from (g.T.LookNumber.number lo) d w 0 c.as_slice.result.now)
    (λ bars. 0 < c.args.count → bar_total bars.items ≡ length xs)
    (λ bars e _. ap bar_total (e ∙ ap (bars_from (g.T.LookNumber.number lo) d w 0) c.as_slice.ensures.value) ∙ bars-all g.T.PartialOrd.partial_cmp g.T.MonotonicallyMappableToU64.in_type g.T.Default.is_default
    g.T.MonotonicallyMappableToU64.code g.T.LookNumber.number xs lo hi c.numbers_have_places.ensures told.values.each
    (told.values.least lo some c.min_value-least.ensures.value) (told.bounds lo hi c.min_value-least.ensures.value c.max_value.ensures.value)
    d w counts (omega arith) far (omega (arith, c.in_ok-counts.ensures.len))
    (λ i l. c.in_ok-counts.ensures.counts i (omega (arith, l, c.in_ok-counts.ensures.len))
    ∙ ap (λ b. count_by (λ x. place_of b w (g.T.MonotonicallyMappableToU64.code x) == i) xs) c.to_u64-3.ensures)) c.bars_of_counts.ensures
