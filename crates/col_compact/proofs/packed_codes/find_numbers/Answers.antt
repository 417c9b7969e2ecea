use Rattle.std.proofs.Common.{List, ℕ, subst}
use Rattle.std.specs.Range.{range_inclusive_start, range_inclusive_end}
use Rattle.col_common.specs.Replacing.{Replaces}
use Rattle.col_compact.proofs.LookupLemmas.{found-by-numbers}
use Rattle.col_compact.proofs.packed_codes.find_numbers.Goals as goal

pub returns-clause-ok : goal.returns-clause-ok
returns-clause-ok g c =
    let ends = c.codes_between.result in
    subst (λ (rows : List ℕ). Replaces c.find.result c.find.new.hits.items rows)
    (found-by-numbers c.args.codes.now c.args.packed.now (range_inclusive_start ends) (range_inclusive_end ends)
    c.args.low c.args.high c.args.row_ids.start c.args.row_ids.end c.requires c.codes_between.ensures.codes)
    c.find.ensures.ok
