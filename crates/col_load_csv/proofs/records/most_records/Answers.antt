use Rattle.std.proofs.Common.{◌∙◌, ◌-◌, length, cond, sym, ap, arith}
use Rattle.col_load_csv.proofs.ReaderLemmas.{long_marked, short_marked}
use Rattle.col_load_csv.proofs.records.most_records.Goals as goal

pub returns-then-text-lt3 : goal.returns-then-text-lt3
returns-then-text-lt3 c = short_marked c.args.text.now (omega (arith, c.if-text-lt3.true))

pub returns-then-is_mark : goal.returns-then-is_mark
returns-then-is_mark c =
    let bytes = c.args.text.now in
    sym (long_marked bytes (omega (arith, c.if-text-lt3.false))
    ∙ ap (λ b. cond b (length bytes - 3) (length bytes)) (sym c.is_mark.ensures ∙ c.if-is_mark.true))

pub returns : goal.returns
returns c =
    let bytes = c.args.text.now in
    sym (long_marked bytes (omega (arith, c.if-text-lt3.false))
    ∙ ap (λ b. cond b (length bytes - 3) (length bytes)) (sym c.is_mark.ensures ∙ c.if-is_mark.false))
