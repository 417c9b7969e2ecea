use Rattle.std.proofs.Common.{◌≡◌, ◌∙◌, IfOk, subst, sym, ap}
use Rattle.col_report.specs.Open.{report_text}
use Rattle.col_report.proofs.PutLemmas.{from_nothing}
use Rattle.col_report.proofs.report.Report.into_text.Goals as goal

pub returns : goal.returns
returns c =
    let r = c.self.inside in
    let text = ap (report_text r.num_rows r.short r.columns) c.deref.ensures.value ∙ c.self.view_is in
    subst (λ s. IfOk c.into_bytes.result (λ text. text.items ≡ s)) text
    (c.into_bytes.ensures (report_text r.num_rows r.short r.columns c.deref.result.now)
    (from_nothing _ _ _ _ _ c.new-text.ensures c.put_report.ensures))
