use Rattle.std.proofs.Common.{map, ap, ◌∙◌}
use Rattle.col_file.specs.Handles.{listed}
use Rattle.col_program.specs.Report.{rows_line}
use Rattle.col_report.specs.Checked.{listed_name}
use Rattle.col_report.proofs.CheckLemmas.{entries-printed}
use Rattle.col_report.proofs.check.report_of_entries.Goals as goal

pub returns : goal.returns
returns g c =
    entries-printed _ _ _ c.args.reader.now.keys.row_count _ (map listed c.args.reader.now.keys.entries) _ c.args.whole.now
    c.new-report.ensures.items (c.in_ok-value.ensures ∙ ap rows_line c.num_docs.ensures)
    (ap (map listed_name) c.deref.ensures.value ∙ c.in-Ok.ensures.ok) c.in_ok-push_line.ensures.ok c.in_ok-push_entries.ensures
