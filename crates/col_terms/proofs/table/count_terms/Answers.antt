use Rattle.std.proofs.Common.{sym, ◌∙◌}
use Rattle.std.proofs.lemmas.List.{take_rest}
use Rattle.col_terms.proofs.TableLemmas.{count-short, count-few, count-other, count-whole}
use Rattle.col_terms.proofs.table.count_terms.Goals as goal

pub returns-then-bytes-lt-NUMBER_NUM_BYTES : goal.returns-then-bytes-lt-NUMBER_NUM_BYTES
returns-then-bytes-lt-NUMBER_NUM_BYTES c = count-short c.args.bytes.now c.if-bytes-lt-NUMBER_NUM_BYTES.true

pub returns-then-ends_len-rest : goal.returns-then-ends_len-rest
returns-then-ends_len-rest c =
    count-few c.args.bytes.now c.number_at-num_terms.result c.number_at-num_terms.ensures
    c.if-bytes-lt-NUMBER_NUM_BYTES.false (simp take_rest at c.if-ends_len-rest.true)

pub returns-then-not-are_terms : goal.returns-then-not-are_terms
returns-then-not-are_terms c =
    count-other c.args.bytes.now c.number_at-num_terms.result c.number_at-num_terms.ensures
    c.if-bytes-lt-NUMBER_NUM_BYTES.false (simp take_rest at c.if-ends_len-rest.false)
    (sym c.if-not-are_terms.true ∙ (simp take_rest at c.are_terms.ensures))

pub returns : goal.returns
returns c =
    count-whole c.args.bytes.now c.number_at-num_terms.result c.number_at-num_terms.ensures
    c.if-bytes-lt-NUMBER_NUM_BYTES.false (simp take_rest at c.if-ends_len-rest.false)
    (sym c.if-not-are_terms.false ∙ (simp take_rest at c.are_terms.ensures))
