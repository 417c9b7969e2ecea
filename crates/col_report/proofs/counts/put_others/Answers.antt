use Rattle.std.proofs.Common.{[], refl, arith}
use Rattle.col_types.specs.Kinds.{kind_of}
use Rattle.col_print.proofs.PutsLemmas.{puts_none, puts_as, puts_then}
use Rattle.col_report.specs.Counted.{shown_count}
use Rattle.col_report.proofs.CountLemmas.{item-more, items-end}
use Rattle.col_report.proofs.PutLemmas.{bare, spelled}
use Rattle.col_report.proofs.counts.put_others.Goals as goal

pub loop-facet-init : goal.loop-facet-init
loop-facet-init g c = ([], puts_none _, refl)

pub loop-facet-preserved : goal.loop-facet-preserved
loop-facet-preserved g c =
    let before = c.loop-facet.invariant in (
      _,
      puts_then _ _ _ _ _ (puts_then _ _ _ _ _ before.1 c.put.ensures) (bare _ _ _ c.put_count.ensures),
      item-more (shown_count (kind_of c.args.column_type)) _ _ _ _ c.args.facets.now c.loop-facet.facet-index
          c.facet-item.result (omega arith) c.facet-item.is before.2 refl (spelled _ _),
    )

pub returns : goal.returns
returns g c =
    let before = c.loop-facet.invariant in
    puts_as _ _ _ _ (items-end (shown_count (kind_of c.args.column_type)) _ _ c.args.facets.now c.loop-facet.facet-index
    (omega arith) before.2) before.1
