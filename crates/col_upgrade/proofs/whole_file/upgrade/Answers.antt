use Rattle.std.proofs.Common.{◌∙◌, ◌++◌, ap, arith}
use Rattle.std.proofs.lemmas.Result.{err_from_is_err_and}
use Rattle.col_common.proofs.SerializingLemmas.{appends_more}
use Rattle.col_upgrade.proofs.FileLemmas.{file-ended}
use Rattle.col_upgrade.proofs.whole_file.upgrade.Goals as goal

pub returns-in_err-put_all-clause-answer : goal.returns-in_err-put_all-clause-answer
returns-in_err-put_all-clause-answer g c =
    let p = err_from_is_err_and c.from_residual.result c.from_residual.ensures.1 in
    rw (p.1, p.2) c.in_err-put_all.ensures.answer

pub returns-clause-answer : goal.returns-clause-answer
returns-clause-answer g c =
    file-ended c.args.reader.now c.put_all.new.reader (g.K.Sink.seen c.args.output.now) (g.K.Sink.seen c.put_all.new.output)
    (g.K.Sink.seen c.finalize.new.sink) c.put_all.new.columns c.finalize.result c.num_docs.result c.file_is_whole.ensures
    (c.num_docs.ensures ∙ ap (λ k. k.row_count) c.in_ok-put_all.ensures.kept.keys) c.in_ok-put_all.ensures.answer
    c.finalize.ensures.file c.finalize.ensures.columns

pub returns-clause-grown : goal.returns-clause-grown
returns-clause-grown g c =
    let first = c.in_ok-put_all.ensures.grown in
    let more = c.finalize.ensures.ok.grown in (
      first.0 ++ more.0,
      appends_more (g.K.Sink.seen c.args.output.now) (g.K.Sink.seen c.put_all.new.output) (g.K.Sink.seen c.finalize.new.sink)
          first.0 more.0 first.1 more.1,
    )

pub returns-clause-later : goal.returns-clause-later
returns-clause-later g c = omega (arith, c.in_ok-put_all.ensures.later, c.finalize.ensures.ok.later)
