use Rattle.std.proofs.Common.{◌+◌, ◌<◌, ◌^◌, ◌++◌, map, sym, ap, refl, ◌∙◌, arith}
use Rattle.std.proofs.lemmas.List.Elements.{All-from_recursion}
use Rattle.std.proofs.lemmas.Option.{get_or_from_slice_get, slice_get_within}
use Rattle.col_numbers.specs.Readers.{list_of}
use Rattle.col_indexer.proofs.ChangeLemmas.{changes-same, changes-appended, changes-all}
use Rattle.col_indexer.proofs.stacked_lists.push_changes.Goals as goal

pub overflow_add-before : goal.overflow_add-before
overflow_add-before c =
    let offsets = list_of c.args.offsets.now in
    let within = slice_get_within offsets _ c.get_val-offset.result c.get_val-offset.ensures in
    let few = All-from_recursion (λ x. c.args.before + x < 2 ^ 32) offsets c.requires _ 0 within in
    omega (arith, few, get_or_from_slice_get offsets _ c.get_val-offset.result 0 c.get_val-offset.ensures)

pub overflow_cast-before : goal.overflow_cast-before
overflow_cast-before c =
    let offsets = list_of c.args.offsets.now in
    let within = slice_get_within offsets _ c.get_val-offset.result c.get_val-offset.ensures in
    let few = All-from_recursion (λ x. c.args.before + x < 2 ^ 32) offsets c.requires _ 0 within in
    omega (arith, few, get_or_from_slice_get offsets _ c.get_val-offset.result 0 c.get_val-offset.ensures)

pub loop-at-preserved-then-offset-last : goal.loop-at-preserved-then-offset-last
loop-at-preserved-then-offset-last c =
    ap (λ left. c.loop-at.starts.items ++ map (λ z. c.args.before + z) left)
    (sym (changes-same c.loop-at.at c.get_val-offset.result c.loop-at.last (list_of c.args.offsets.now)
    c.get_val-offset.ensures c.if-offset-last.true))
    ∙ c.loop-at.invariant

pub loop-at-preserved : goal.loop-at-preserved
loop-at-preserved c =
    changes-appended c.args.before c.loop-at.at c.get_val-offset.result _ c.loop-at.last (list_of c.args.offsets.now)
    c.loop-at.starts.items _ refl c.in_ok-push.ensures.items c.get_val-offset.ensures c.if-offset-last.false
    ∙ c.loop-at.invariant

pub returns : goal.returns
returns c =
    changes-all c.args.before c.loop-at.at c.loop-at.last (list_of c.args.offsets.now) c.loop-at.starts.items
    (omega (arith, c.loop-at-test.false, c.num_vals-at-end.ensures))
    ∙ c.loop-at.invariant
