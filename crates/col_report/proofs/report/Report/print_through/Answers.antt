use Rattle.std.proofs.Common.{rules, ◌≡◌, ◌∙◌, ◌++◌, [], subst, sym, ap, append-nil}
use Rattle.col_common.specs.Causes.{HasCause}
use Rattle.col_common.specs.Outside.{WriteAppends}
use Rattle.col_print.proofs.PutsLemmas.{puts_then, puts_as}
use Rattle.col_report.specs.Open.{report_text}
use Rattle.col_report.proofs.PutLemmas.{from_nothing, all-written}
use Rattle.col_report.proofs.report.Report.print_through.Goals as goal

pub returns-clause-appended : goal.returns-clause-appended
returns-clause-appended g c =
    let r = c.self.inside in
    let start = g.R.Sink.seen c.args.sink.now in
    let end = g.R.Sink.seen c.flush.new.self.sink.now in
    let shown = report_text r.num_rows r.short r.columns c.deref.result.now in
    let text = ap (report_text r.num_rows r.short r.columns) c.deref.ensures.value ∙ c.self.view_is in
    let all = puts_as _ _ _ _ (append-nil shown) (puts_then _ _ _ shown [] c.put_through.ensures.puts c.flush.ensures.puts) in
    let put = from_nothing _ start _ _ shown c.new-out.ensures.nothing all in
    let appended : WriteAppends start end c.ended.result c.args.self =
    subst (WriteAppends start end c.ended.result) text
    (subst (λ e. WriteAppends start end e shown) (sym c.ended.ensures.ended)
    (all-written _ start end c.flush.new.self.buffer.now.items shown c.flush.new.self.ended put c.flush.ensures.none
    (λ e. c.ended.ensures.memory (c.ended.ensures.ended ∙ e)))) in
    search rules

pub returns-clause-cause : goal.returns-clause-cause
returns-clause-cause g c =
    let r = c.self.inside in
    let start = g.R.Sink.seen c.args.sink.now in
    let end = g.R.Sink.seen c.flush.new.self.sink.now in
    let shown = report_text r.num_rows r.short r.columns c.deref.result.now in
    let all = puts_as _ _ _ _ (append-nil shown) (puts_then _ _ _ shown [] c.put_through.ensures.puts c.flush.ensures.puts) in
    let put = from_nothing _ start _ _ shown c.new-out.ensures.nothing all in
    let cause : HasCause start.faults end.faults c.ended.result =
    subst (λ e. HasCause start.faults end.faults e) (sym c.ended.ensures.ended) put.cause in
    search rules
