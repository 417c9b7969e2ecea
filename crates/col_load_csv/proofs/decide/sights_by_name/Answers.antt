use Rattle.std.proofs.Common.{bytes_eq, string_bytes, arith, ap, sym, ◌∙◌}
use Rattle.col_load_csv.specs.Sights.{sight_under, with_own}
use Rattle.col_load_csv.specs.declared.column.Column.{Column}
use Rattle.col_load_csv.proofs.KindLemmas.{merged_all, merged_more}
use Rattle.col_load_csv.proofs.decide.sights_by_name.Goals as goal

pub loop-place-preserved : goal.loop-place-preserved
loop-place-preserved c =
    λ rows are name. merged_more name rows c.args.columns.now (sight_under c.loop-place.sights name) c.sight_of-own.result
    (sight_under c.add_sight.new.sights name) c.loop-place.place c.index-columns-place.result c.args.seen.now (omega arith) c.requires
    c.index-columns-place.is c.sight_of-own.ensures
    (c.in_ok-add_sight.ensures name ∙ ap (λ s. with_own (sight_under c.loop-place.sights name) (bytes_eq s name) c.sight_of-own.result)
    (c.as_str.ensures.value ∙ ap (λ (k : Column). string_bytes k.name) (sym c.index-columns-place.is))) are
    (c.loop-place.invariant rows are name)

pub returns : goal.returns
returns c =
    λ rows are name. merged_all name rows c.args.columns.now (sight_under c.loop-place.sights name) c.loop-place.place (omega arith)
    (c.loop-place.invariant rows are name)
