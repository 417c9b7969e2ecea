use Rattle.std.proofs.Common.{sym, ap, ◌∙◌, arith}
use Rattle.col_model.specs.Index.{RowSet}
use Rattle.col_index.specs.Held.{set_held}
use Rattle.col_index.proofs.RankedLemmas.{bits_fit}
use Rattle.col_index.proofs.BitRangeLemmas.{set_fits, set_start, set_end, clear_start, clear_end}
use Rattle.col_index.proofs.RowRangeLemmas.{range_past}
use Rattle.col_index.proofs.optional_index.OptionalIndex.range.Goals as goal

pub returns-then-doc_id-self-clause-start : goal.returns-then-doc_id-self-clause-start
returns-then-doc_id-self-clause-start c =
    let i = c.self.inside in
    let count = ap (λ (s : RowSet). s.num_rows) c.self.view_is in
    sym (ap (λ p. p.0) (range_past c.args.self.now c.args.doc_id (omega (arith, c.self.invariant.long, count))))

pub returns-then-doc_id-self-clause-end : goal.returns-then-doc_id-self-clause-end
returns-then-doc_id-self-clause-end c =
    let i = c.self.inside in
    let count = ap (λ (s : RowSet). s.num_rows) c.self.view_is in
    sym (ap (λ p. p.1) (range_past c.args.self.now c.args.doc_id (omega (arith, c.self.invariant.long, count))))

pub rank-rank-requires-clause-fits : goal.rank-rank-requires-clause-fits
rank-rank-requires-clause-fits c =
    let i = c.self.inside in
    bits_fit (set_held i.held) i.num_rows i.bits.words.items i.bits.before.items c.self.invariant c.args.doc_id
    (sym c.reaches.ensures ∙ c.if-not-reaches.false)

pub overflow_add-result : goal.overflow_add-result
overflow_add-result c =
    let i = c.self.inside in
    omega (
      arith,
      set_fits (set_held i.held) c.args.self.now c.self.view_is i.num_rows i.bits.words.items i.bits.before.items
          c.self.invariant c.args.doc_id (sym c.reaches.ensures ∙ c.if-not-reaches.false)
          c.rank-rank.result c.rank-rank.ensures (sym c.holds.ensures ∙ c.if-holds.true),
    )

pub returns-then-holds-clause-start : goal.returns-then-holds-clause-start
returns-then-holds-clause-start c =
    let i = c.self.inside in
    set_start (set_held i.held) c.args.self.now c.self.view_is i.num_rows i.bits.words.items i.bits.before.items
    c.self.invariant c.args.doc_id (sym c.reaches.ensures ∙ c.if-not-reaches.false)
    c.rank-rank.result c.rank-rank.ensures (sym c.holds.ensures ∙ c.if-holds.true) c.if-doc_id-self.false

pub returns-then-holds-clause-end : goal.returns-then-holds-clause-end
returns-then-holds-clause-end c =
    let i = c.self.inside in
    set_end (set_held i.held) c.args.self.now c.self.view_is i.num_rows i.bits.words.items i.bits.before.items
    c.self.invariant c.args.doc_id (sym c.reaches.ensures ∙ c.if-not-reaches.false)
    c.rank-rank.result c.rank-rank.ensures (sym c.holds.ensures ∙ c.if-holds.true) c.if-doc_id-self.false

pub returns-else-holds-clause-start : goal.returns-else-holds-clause-start
returns-else-holds-clause-start c =
    let i = c.self.inside in
    clear_start (set_held i.held) c.args.self.now c.self.view_is i.num_rows i.bits.words.items i.bits.before.items
    c.self.invariant c.args.doc_id (sym c.reaches.ensures ∙ c.if-not-reaches.false)
    (sym c.holds.ensures ∙ c.if-holds.false) c.rank-rank.result c.rank-rank.ensures c.if-doc_id-self.false

pub returns-else-holds-clause-end : goal.returns-else-holds-clause-end
returns-else-holds-clause-end c =
    let i = c.self.inside in
    clear_end (set_held i.held) c.args.self.now c.self.view_is i.num_rows i.bits.words.items i.bits.before.items
    c.self.invariant c.args.doc_id (sym c.reaches.ensures ∙ c.if-not-reaches.false)
    (sym c.holds.ensures ∙ c.if-holds.false) c.rank-rank.result c.rank-rank.ensures c.if-doc_id-self.false
