use Rattle.std.proofs.Common.{◌++◌, ◌∷◌, [], refl, sym, ◌∙◌, ap, arith}
use Rattle.col_compact.proofs.ReadingLemmas.{reading_first, reading_none, reading_more, reading_all, read_space, range_at-is}
use Rattle.col_compact.proofs.reading.read_ranges.Goals as goal

pub loop-done-init : goal.loop-done-init
loop-done-init c = reading_first c.args.bytes.now c.args.count c.new-ranges.result.items c.new-ranges.ensures.items

pub returns-in_default-clause-ranges : goal.returns-in_default-clause-ranges
returns-in_default-clause-ranges c =
    let l = c.loop-done in
    reading_none c.args.bytes.now c.args.count l._done l.ranges.items l.before l.apart l.codes l.rest.now
    l.invariant (omega arith) (sym c.in_default.ensures.range)

pub overflow_sub-codes : goal.overflow_sub-codes
overflow_sub-codes c = (range_at-is _ _ _ _ _ _ (sym c.in-Some.ensures.range)).ordered

pub overflow_cast-codes : goal.overflow_cast-codes
overflow_cast-codes c = let few = (range_at-is _ _ _ _ _ _ (sym c.in-Some.ensures.range)).few in omega arith

pub overflow_add-codes : goal.overflow_add-codes
overflow_add-codes c =
    let few = (range_at-is _ _ _ _ _ _ (sym c.in-Some.ensures.range)).few in
    let ordered = (range_at-is _ _ _ _ _ _ (sym c.in-Some.ensures.range)).ordered in
    omega (arith, few, ordered, c.in-Some.ensures.code)

pub new-requires-clause-ordered : goal.new-requires-clause-ordered
new-requires-clause-ordered c = (range_at-is _ _ _ _ _ _ (sym c.in-Some.ensures.range)).ordered

pub new-requires-clause-short : goal.new-requires-clause-short
new-requires-clause-short c = let few = (range_at-is _ _ _ _ _ _ (sym c.in-Some.ensures.range)).few in omega arith

pub loop-done-preserved : goal.loop-done-preserved
loop-done-preserved c =
    let l = c.loop-done in
    reading_more c.args.bytes.now c.args.count l._done l.ranges.items l.before l.apart l.codes l.rest.now
    c.in-Some.range c.in-Some.behind.now _ _ l.invariant (omega arith) (sym c.in-Some.ensures.range)
    c.in-Some.ensures.code refl (c.in_ok-push.ensures.items ∙ ap (λ m. l.ranges.items ++ m ∷ []) c.new.ensures)

pub returns-clause-ranges : goal.returns-clause-ranges
returns-clause-ranges c =
    let l = c.loop-done in
    reading_all c.args.bytes.now c.args.count l._done l.ranges.items l.before l.apart l.codes l.rest.now l.invariant (omega arith)

pub returns-clause-space : goal.returns-clause-space
returns-clause-space c =
    let l = c.loop-done in
    read_space c.args.bytes.now c.args.count l._done l.ranges.items l.before l.apart l.codes l.rest.now l.invariant (omega arith)
