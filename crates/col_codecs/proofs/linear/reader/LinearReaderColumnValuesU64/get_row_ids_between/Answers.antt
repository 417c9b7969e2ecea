use Rattle.std.proofs.Common.{◌≡◌, ◌-◌, ◌∙◌, ap, subst, sym}
use Rattle.col_codecs.proofs.LineStatsLemmas.{flat-item}
use Rattle.col_common.specs.Replacing.{Replaces}
use Rattle.col_model.specs.Items.{linear_item}
use Rattle.col_codecs.specs.BoundedItems.{ids_by}
use Rattle.col_codecs.specs.Line.{with_width}
use Rattle.col_codecs.proofs.FoundLemmas.{found_values}
use Rattle.col_codecs.proofs.linear.reader.LinearReaderColumnValuesU64.get_row_ids_between.Goals as goal

pub returns : goal.returns
returns c =
    let a = c.args in
    let r = c.self.inside in
    let l = with_width r.line r.bit_unpacker in
    let from = a.rows.start in
    subst (Replaces c.find_ids.result c.find_ids.new.hits.items)
    (ap (λ b. ids_by (linear_item l b) a.low a.high from (c.min.result - from)) c.as_slice.ensures
    ∙ found_values (linear_item l r.data) a.self.now r.stats.num_rows a.low a.high from a.rows.«end» c.min.result
    c.self.view_is c.min.ensures)
    c.find_ids.ensures

pub returns-then-bit_width-eq0 : goal.returns-then-bit_width-eq0
returns-then-bit_width-eq0 c =
    let a = c.args in
    let r = c.self.inside in
    let l = with_width r.line r.bit_unpacker in
    let from = a.rows.start in
    let flat : r.bit_unpacker ≡ 0 = sym c.bit_width.ensures ∙ c.if-bit_width-eq0.true in
    subst (Replaces c.find_on_line.result c.find_on_line.new.hits.items)
    (sym (λ j. ids_by (λ i. flat-item r.line r.bit_unpacker r.data i flat j) a.low a.high from (c.min.result - from))
    ∙ found_values (linear_item l r.data) a.self.now r.stats.num_rows a.low a.high from a.rows.«end» c.min.result
    c.self.view_is c.min.ensures)
    c.find_on_line.ensures
