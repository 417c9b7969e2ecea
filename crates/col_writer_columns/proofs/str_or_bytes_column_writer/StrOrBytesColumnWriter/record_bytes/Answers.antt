use Rattle.std.proofs.Common.{◌∙◌, ap, sym, subst, List, ℕ, Err}
use Rattle.std.proofs.lemmas.Result.{err_from_is_err_and}
use Rattle.col_writer_columns.specs.Texts.{texts_by_id, AreIds}
use Rattle.col_writer_columns.proofs.CutLemmas.{cut_is, set_is, some_pushed}
use Rattle.col_writer_columns.proofs.TextLemmas.{text-refused, text-undone, text-recorded, only_memory, ids-with, posted-few}
use Rattle.col_writer_columns.proofs.NumericalLemmas.{posted-value}
use Rattle.col_writer_columns.proofs.str_or_bytes_column_writer.StrOrBytesColumnWriter.record_bytes.Goals as goal

pub returns-in_err-record-clause-values : goal.returns-in_err-record-clause-values
returns-in_err-record-clause-values c =
    let p = err_from_is_err_and c.from_residual.result c.from_residual.ensures.1 in
    text-refused c.self.inside.dictionary c.self.inside.column c.record.new.self c.args.self.now.values c.args.doc
    c.args.text.now c.from_residual.result p.0 _ (ap (λ w. w.values) c.self.view_is) p.1 p.2
    c.in_err-record.ensures

pub set_last-requires : goal.set_last-requires
set_last-requires c =
    some_pushed c.record.new.self c.self.inside.column (c.args.doc, 0)
    (posted-value c.self.inside.column c.record.new.self c.args.doc 0 c.in_ok-record.ensures.ok)

pub pop-requires : goal.pop-requires
pop-requires c =
    some_pushed c.record.new.self c.self.inside.column (c.args.doc, 0)
    (posted-value c.self.inside.column c.record.new.self c.args.doc 0 c.in_ok-record.ensures.ok)

pub invariant_of-self-in-Ok : goal.invariant_of-self-in-Ok
invariant_of-self-in-Ok c =
    let made = set_is c.record.new.self c.set_last.new.self c.self.inside.column c.args.doc 0 c.in-Ok.id.0
    c.set_last.ensures
    (posted-value c.self.inside.column c.record.new.self c.args.doc 0 c.in_ok-record.ensures.ok) in
    let P : List (ℕ × ℕ) → Type 0 = λ r. AreIds c.get_or_allocate_id.new.self r in
    subst P (sym made) (ids-with c.self.inside.dictionary c.get_or_allocate_id.new.self c.self.inside.column
    c.args.doc c.in-Ok.id.0 c.args.text.now c.self.invariant c.in-Ok.ensures.ok)

pub invariant_of-self-in-Err : goal.invariant_of-self-in-Err
invariant_of-self-in-Err c =
    let left = cut_is c.record.new.self c.pop.new.self c.self.inside.column (c.args.doc, 0) c.pop.ensures
    (posted-value c.self.inside.column c.record.new.self c.args.doc 0 c.in_ok-record.ensures.ok) in
    let P : List (ℕ × ℕ) → Type 0 = λ r. AreIds c.self.inside.dictionary r in
    let Q : List (List ℕ) → Type 0 = λ t. AreIds t c.pop.new.self in
    subst Q (sym c.in-Err.ensures.kept) (subst P (sym left) c.self.invariant)

pub returns-in-Ok-clause-values : goal.returns-in-Ok-clause-values
returns-in-Ok-clause-values c =
    let made = set_is c.record.new.self c.set_last.new.self c.self.inside.column c.args.doc 0 c.in-Ok.id.0
    c.set_last.ensures
    (posted-value c.self.inside.column c.record.new.self c.args.doc 0 c.in_ok-record.ensures.ok) in
    text-recorded c.self.inside.dictionary c.get_or_allocate_id.new.self c.self.inside.column c.record.new.self
    c.set_last.new.self c.args.self.now.values c.args.doc c.in-Ok.id.0 c.args.text.now
    (ap (λ w. w.values) c.self.view_is) c.self.invariant c.in_ok-record.ensures.ok c.in-Ok.ensures.ok made

pub returns-in-Err-clause-values : goal.returns-in-Err-clause-values
returns-in-Err-clause-values c =
    let left = cut_is c.record.new.self c.pop.new.self c.self.inside.column (c.args.doc, 0) c.pop.ensures
    (posted-value c.self.inside.column c.record.new.self c.args.doc 0 c.in_ok-record.ensures.ok) in
    let few = posted-few c.self.inside.column c.record.new.self c.args.doc 0 c.in_ok-record.ensures.ok in
    text-undone c.args.self.now.values (texts_by_id c.get_or_allocate_id.new.self c.pop.new.self) c.args.doc
    c.args.text.now c.in-Err.refusal
    (only_memory c.self.inside.dictionary c.self.inside.column c.args.text.now c.in-Err.refusal c.self.invariant few
    c.in-Err.ensures.refused (λ e. c.in-Err.ensures.too_large.0 (ap Err e)))
    ((λ i. texts_by_id (c.in-Err.ensures.kept i) (left i)) ∙ ap (λ w. w.values) c.self.view_is)
