use Rattle.std.proofs.Common.{[], Ok, Err, map, ◌∙◌}
use Rattle.std.proofs.lemmas.Result.{IfOk-weaker, err_from_is_err_and}
use Rattle.col_documents.specs.Forms.{named_form}
use Rattle.col_load.specs.Files.{without_value}
use Rattle.col_load_csv.proofs.LoadedLemmas.{counts_empty, counts_headed, header_stops, loads_empty, loads_headed}
use Rattle.col_load_csv.proofs.load.load_csv.Goals as goal

pub returns-in_err-columns-clause-file : goal.returns-in_err-columns-clause-file
returns-in_err-columns-clause-file g c =
    let p = err_from_is_err_and c.from_residual.result c.from_residual.ensures.1 in
    rw (p.1, p.2) (header_stops (map named_form c.args.forms.now) c.args.skips c.args.text.now (g.K.Sink.seen c.args.output.now)
    c.in_err-columns.field-0.0 c.in_err-columns.ensures.err)

pub returns-in_err-write-in-None-clause-file : goal.returns-in_err-write-in-None-clause-file
returns-in_err-write-in-None-clause-file g c =
    let p = err_from_is_err_and c.from_residual-in_err-write-in-None.result c.from_residual-in_err-write-in-None.ensures.1 in
    rw (p.1, p.2) (loads_empty (map named_form c.args.forms.now) c.args.skips c.args.text.now (g.K.Sink.seen c.args.output.now)
    (g.K.Sink.seen c.write.new.output) (Err c.in_err-write-in-None.field-0.0) (rw c.in-None.is at c.in_ok-columns.ensures.ok)
    (c.in_err-write-in-None.ensures [] c.new.ensures))

pub returns-in_ok-write-in-None-clause-file : goal.returns-in_ok-write-in-None-clause-file
returns-in_ok-write-in-None-clause-file g c =
    loads_empty (map named_form c.args.forms.now) c.args.skips c.args.text.now (g.K.Sink.seen c.args.output.now)
    (g.K.Sink.seen c.write.new.output) (Ok tt) (rw c.in-None.is at c.in_ok-columns.ensures.ok)
    (c.in_ok-write-in-None.ensures [] c.new.ensures)

pub returns-in-Some-clause-file : goal.returns-in-Some-clause-file
returns-in-Some-clause-file g c =
    loads_headed (map named_form c.args.forms.now) c.args.skips c.args.text.now (g.K.Sink.seen c.args.output.now)
    (g.K.Sink.seen c.load_records.new.output) (without_value c.load_records.result) c.in-Some.columns.items
    (rw c.in-Some.is at c.in_ok-columns.ensures.ok) (rw c.deref.ensures.value at c.load_records.ensures.file)

pub returns-in-Some-clause-counts : goal.returns-in-Some-clause-counts
returns-in-Some-clause-counts g c =
    let same = counts_headed (map named_form c.args.forms.now) c.args.text.now c.in-Some.columns.items
    (rw c.in-Some.is at c.in_ok-columns.ensures.ok) in
    IfOk-weaker c.load_records.result _ _ (λ counts is. is ∙ same) (rw c.deref.ensures.value at c.load_records.ensures.counts)

pub returns-in_ok-write-in-None-clause-counts : goal.returns-in_ok-write-in-None-clause-counts
returns-in_ok-write-in-None-clause-counts g c =
    c.none.ensures ∙ counts_empty (map named_form c.args.forms.now) c.args.text.now (rw c.in-None.is at c.in_ok-columns.ensures.ok)
