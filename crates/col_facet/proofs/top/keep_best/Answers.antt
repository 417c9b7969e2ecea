use Rattle.std.proofs.Common.{◌∙◌, ap, arith, subst, ◌≡◌, ◌++◌, ◌∷◌, []}
use Rattle.std.specs.List.{prefix_len}
use Rattle.std.proofs.Common.{is_lt}
use Rattle.col_model.specs.Sorted.{inserted}
use Rattle.col_facet.specs.Ranked.{ranked_count, ranked_counts, ranked_cmp, in_rank}
use Rattle.col_facet.proofs.top.keep_best.Goals as goal
use Rattle.col_facet.proofs.BestLemmas.{kept-behind, kept-placed}

pub returns-then-is_behind : goal.returns-then-is_behind
returns-then-is_behind c =
    kept-behind c.args.best.now.items c.truncate.new.self.items (ranked_count c.args.one) c.args.k c.truncate.ensures.items
    (omega (arith, c.if-len-k.true, c.len.ensures))
    (subst (λ vs. inserted in_rank (ranked_count c.args.one) (ranked_counts vs) ≡ ranked_counts vs ++ ranked_count c.args.one ∷ [])
    c.as_slice.ensures.value (c.is_behind.ensures c.if-is_behind.true))

pub returns : goal.returns
returns c =
    kept-placed c.args.best.now.items c.insert.new.self.items c.truncate-2.new.self.items c.args.one c.place_of-place.result c.args.k
    (c.place_of-place.ensures.before ∙ ap (prefix_len (λ w. is_lt (ranked_cmp w c.args.one))) c.as_slice-2.ensures.value)
    c.in_ok-insert.ensures.items c.truncate-2.ensures.items
