use Rattle.std.proofs.Common.{◌≡◌, ◌∷◌, [], ◌++◌, ◌+◌, ◌*◌, length, map, ap, sym, subst, arith, take, length-append, length-take, ◌∙◌}
use Rattle.std.specs.Prelude.{List}
use Rattle.std.specs.List.{range_with_len}
use Rattle.col_codecs.specs.declared.block_bounds.Bounds.{Bounds}
use Rattle.col_codecs.specs.BlockBounds.{AreBounds, Enclose}
use Rattle.col_codecs.specs.ColumnStats.{collected_of}
use Rattle.col_codecs.proofs.BoundLemmas.{enclose_more}
use Rattle.col_codecs.proofs.bounded_items.read_bounds.Goals as goal

pub loop-from-preserved : goal.loop-from-preserved
loop-from-preserved g c =
    let f = g.I.BoundedItems.item c.args.items.now in
    let l = c.loop-from in
    let found = c.read_block-more.result.1 in
    let placed : l.from ≡ 1024 * length l.bounds.items = l.invariant.placed c.loop-from-test.true in
    let long : length (take c.min-len.result l.block) ≡ c.min-len.result = omega (arith, length-take c.min-len.result l.block) in
    let grown : c.push.new.self.items ≡ l.bounds.items ++ found ∷ [] = c.in_ok-push.ensures.items in
    record {
      within = omega arith;
      collected = c.read_block-more.ensures.collected ∙ ap (λ n. collected_of (map f (range_with_len 0 (l.from + n)))) long;
      placed = λ h. omega (arith, placed, h, ap length grown, length-append l.bounds.items (found ∷ []));
      enclosed = subst (λ (bs : List Bounds). Enclose bs f (l.from + c.min-len.result)) (sym grown)
          (enclose_more l.bounds.items found f l.from c.min-len.result placed (omega arith) l.invariant.enclosed
          (subst (λ n. AreBounds found (map f (range_with_len l.from n))) long
          c.read_block-more.ensures.bounds));
    }
