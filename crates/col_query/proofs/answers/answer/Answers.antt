use Rattle.std.proofs.Common.{◌≡◌, length, ap, ◌∙◌, sym, subst}
use Rattle.std.proofs.lemmas.Result.{err_from_is_err_and}
use Rattle.col_file.proofs.ReadLemmas.{reads-none}
use Rattle.col_model.specs.Keys.{FileKeys}
use Rattle.col_opened.specs.Chosen.{table_where}
use Rattle.col_opened.specs.Opened.{AreOpen}
use Rattle.col_program.specs.Queries.{answer_of}
use Rattle.col_query.specs.Named.{entries_of, table_named, AreMarks}
use Rattle.col_query.proofs.AnswerLemmas.{asked-agree, asked-few, refuses-same, answers-then}
use Rattle.col_query.proofs.answers.answer.Goals as goal
use Rattle.col_questions.specs.Steps.{tree_of}

pub open_where-requires : goal.open_where-requires
open_where-requires g c = ap length c.deref.ensures.value ∙ c.in_ok-named.ensures.long

pub returns-in_err-named-clause-reads : goal.returns-in_err-named-clause-reads
returns-in_err-named-clause-reads g c =
    reads-none (length (entries_of (tree_of c.args.query.now) c.args.reader.now.keys.entries)) c.args.reader.now

pub returns-in_err-columns-clause-answer : goal.returns-in_err-columns-clause-answer
returns-in_err-columns-clause-answer g c =
    let r = c.args.reader.now in
    let flags = c.deref.result.now in
    let marks = subst (AreMarks c.steps.result.now r.keys.entries) (sym c.deref.ensures.value) c.in_ok-named.ensures in
    let p = err_from_is_err_and c.from_residual-in_err-columns.result c.from_residual-in_err-columns.ensures.1 in
    rw (p.1, p.2) (refuses-same r.file c.open_where.new.reader.file (table_where flags) (table_named (tree_of c.args.query.now))
    c.in_err-columns.field-0.0
    (asked-agree r c.steps.result.now c.args.query.now flags c.file_is_whole.ensures c.steps.ensures.value c.steps.ensures.sound marks)
    c.in_err-columns.ensures.answer)

pub returns-in_err-columns-clause-reads : goal.returns-in_err-columns-clause-reads
returns-in_err-columns-clause-reads g c =
    asked-few c.args.reader.now c.open_where.new.reader c.steps.result.now c.args.query.now c.deref.result.now
    c.steps.ensures.value c.steps.ensures.sound
    (subst (AreMarks c.steps.result.now c.args.reader.now.keys.entries) (sym c.deref.ensures.value) c.in_ok-named.ensures)
    c.in_err-columns.ensures.reads

pub returns-clause-answer : goal.returns-clause-answer
returns-clause-answer g c =
    let r = c.args.reader.now in
    let flags = c.deref.result.now in
    let marks = subst (AreMarks c.steps.result.now r.keys.entries) (sym c.deref.ensures.value) c.in_ok-named.ensures in
    let columns = c.in_ok-columns.columns in
    let q = tree_of c.args.query.now in
    answers-then (λ t columns. AreOpen r.keys t columns) (λ t docs. docs.items ≡ answer_of t q) r.file
    c.open_where.new.reader.file (table_where flags) (table_named q) columns c.documents.result
    (asked-agree r c.steps.result.now c.args.query.now flags c.file_is_whole.ensures c.steps.ensures.value c.steps.ensures.sound marks)
    c.in_ok-columns.ensures.answer
    (λ t opened. c.documents.ensures.ok t
    (subst (λ (k : FileKeys). AreOpen k t columns) (sym c.in_ok-columns.ensures.reads.keys) opened))
    c.documents.ensures.err

pub returns-clause-reads : goal.returns-clause-reads
returns-clause-reads g c =
    asked-few c.args.reader.now c.open_where.new.reader c.steps.result.now c.args.query.now c.deref.result.now
    c.steps.ensures.value c.steps.ensures.sound
    (subst (AreMarks c.steps.result.now c.args.reader.now.keys.entries) (sym c.deref.ensures.value) c.in_ok-named.ensures)
    c.in_ok-columns.ensures.reads
