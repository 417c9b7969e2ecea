use Rattle.std.proofs.Common.{◌∙◌, sym, arith, length, false, ◌≡◌, ◌<◌, ◌^◌, ◌-◌, ◌++◌, ◌∷◌, []}
use Rattle.col_writer_rows.specs.Documents.{is_late_doc}
use Rattle.col_writer_columns.proofs.PostedLemmas.{answers-late, answers-full, answers-more, when_ok}
use Rattle.col_writer_columns.proofs.column_writer.ColumnWriter.record.Goals as goal

pub returns-then-is_late : goal.returns-then-is_late
returns-then-is_late g c =
    answers-late c.self.inside.docs c.self.inside.values.items c.args.self.now c.args.doc c.args.value
    c.self.view_is c.self.invariant.many (sym c.is_late.ensures ∙ c.if-is_late.true)

pub returns-then-len-ge-MAX_NUM_VALUES : goal.returns-then-len-ge-MAX_NUM_VALUES
returns-then-len-ge-MAX_NUM_VALUES g c =
    let late : is_late_doc c.self.inside.docs c.args.doc ≡ false = sym c.is_late.ensures ∙ c.if-is_late.false in
    answers-full c.self.inside.docs c.self.inside.values.items c.args.self.now c.args.doc c.args.value
    c.self.view_is c.self.invariant.many late (omega (arith, c.len.ensures, c.self.inside.values.ok.0))

pub returns : goal.returns
returns g c =
    let late : is_late_doc c.self.inside.docs c.args.doc ≡ false = sym c.is_late.ensures ∙ c.if-is_late.false in
    let few : length c.self.inside.values.items < 2 ^ 32 - 1 =
    omega (arith, c.len.ensures, c.self.inside.values.ok.0, c.if-len-ge-MAX_NUM_VALUES.false) in
    let docs : c.push-2.new.self ≡ c.self.inside.docs ++ c.args.doc ∷ [] =
    when_ok c.push-2.result c.is_err.result c.is_err.ensures.value c.if-is_err.false c.push-2.ensures.ok in
    answers-more c.self.inside.docs c.push-2.new.self c.self.inside.values.items c.push.new.self.items
    c.args.self.now c.args.doc c.args.value c.self.view_is c.self.invariant.many late few docs
    c.in_ok-push.ensures.items
