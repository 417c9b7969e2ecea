use Rattle.std.proofs.Common.{rules, ◌<◌, ◌≤◌, length, Some, sym, ap, ◌∙◌, arith}
use Rattle.col_model.specs.Index.{RowOffsets}
use Rattle.col_index.specs.Offsets.{AreOffsets}
use Rattle.col_index.proofs.CountLaws.{offset_starts}
use Rattle.col_index.proofs.WalkLemmas.{run-past_end, run-at_end}
use Rattle.col_index.proofs.multivalued_index_v2.MultiValueIndexV2.end_at.Goals as goal

pub returns-then-place-from : goal.returns-then-place-from
returns-then-place-from c =
    let o = c.args.self.now in
    let a : AreOffsets o = search rules in
    let many = ap (λ (o : RowOffsets). length o.starts) c.self.view_is in
    let past : length o.set.rows ≤ c.args.place =
    omega (arith, c.if-place-from.true, c.from.ensures, c.num_vals.ensures, many, (offset_starts o a).long) in
    sym (run-past_end o a c.args.place past)

pub returns : goal.returns
returns c =
    let o = c.args.self.now in
    let a : AreOffsets o = search rules in
    let many = ap (λ (o : RowOffsets). length o.starts) c.self.view_is in
    let inside : c.args.place < length o.set.rows =
    omega (arith, c.if-place-from.false, c.from.ensures, c.num_vals.ensures, many, (offset_starts o a).long) in
    sym (run-at_end o a c.args.place inside ∙ ap Some (sym c.start_at.ensures))
