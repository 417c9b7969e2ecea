use Rattle.std.proofs.Common.{ℕ, ◌*◌, ◌<◌, Bool, cond, eqb, length, take, get_or, ap, sym, ◌∙◌, arith}
use Rattle.std.specs.List.{list_any}
use Rattle.std.proofs.lemmas.List.Folds.{list_any_more}
use Rattle.col_common.specs.Flags.{flag_at}
use Rattle.col_query.proofs.WordLemmas.{flag_after}
use Rattle.col_query.proofs.words.put_bits.Goals as goal

pub loop-doc-preserved : goal.loop-doc-preserved
loop-doc-preserved c =
    λ k h.
    let at = c.loop-doc.doc-index in
    let docs = c.args.docs.now in
    let doc = get_or docs at 0 in
    let before = flag_at c.args.words.now k in
    let found = list_any (λ (d : ℕ). eqb k d) (take at docs) in
    let inside : k < 64 * length c.loop-doc.words = omega arith in
    let put = c.put_bit.ensures k inside ∙ ap (λ (f : Bool). cond (eqb k doc) c.args.value f) (c.loop-doc.invariant k inside) in
    flag_after found (eqb k doc) c.args.value (flag_at c.put_bit.new.words k) before put
    ∙ ap (λ (b : Bool). cond b c.args.value before) (sym (list_any_more (λ (d : ℕ). eqb k d) docs at 0 c.loop-doc-test.true))
