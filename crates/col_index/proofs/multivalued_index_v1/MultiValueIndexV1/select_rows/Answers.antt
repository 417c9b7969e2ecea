use Rattle.std.proofs.Common.{◌≤◌, ◌<◌, ◌+◌, length, get_or, refl, sym, ◌∙◌, arith}
use Rattle.col_common.specs.Ascending.{differences}
use Rattle.col_index.proofs.KeptLemmas.{selected-none, selected-read, selected-same, selected-next}
use Rattle.col_index.proofs.OldSelectLemmas.{HasPosition, walked-first, walked-same_rows, walked-same, walked-next_rows, walked-next}
use Rattle.col_index.proofs.OldRowLemmas.{old-start_least}
use Rattle.col_index.proofs.TurnLemmas.{rows_at-none}
use Rattle.col_index.proofs.multivalued_index_v1.MultiValueIndexV1.select_rows.Goals as goal

pub loop-at-preserved-then-position-end : goal.loop-at-preserved-then-position-end
loop-at-preserved-then-position-end c =
    let xs = c.args.self.now in
    let l = c.loop-at in
    let read = selected-read (differences xs) c.args.ranks.now l.ranks l.kept l.at l.invariant.selected in
    let inside : l.at < length c.args.ranks.now = omega (arith, l.invariant.selected.long) in
    let low : get_or c.args.ranks.now l.at 0 < l.«end» = omega (arith, read) in
    record {
      selected =
          selected-same (differences xs) c.args.ranks.now l.ranks l.kept l.at l.invariant.selected
          (walked-same_rows xs c.offsets_never_fall.ensures c.args.ranks.now l.at l.doc_id l.«end» c.requires.rising
          inside c.requires.below l.invariant.walked low);
      walked =
          walked-same xs c.offsets_never_fall.ensures c.args.ranks.now l.at l.doc_id l.«end» c.requires.rising
          inside c.requires.below l.invariant.walked low;
    }

pub loop-at-init : goal.loop-at-init
loop-at-init c =
    let xs = c.args.self.now in
    let old = c.offsets_never_fall.ensures in
    let within : c.min-doc_id.result ≤ length (differences xs) = omega (arith, c.min-doc_id.ensures, c.num_docs.ensures) in
    let first = old-start_least xs old c.args.doc_id_start c.min-doc_id.result
    (omega (arith, c.min-doc_id.ensures, c.num_docs.ensures)) in
    record {
      selected = selected-none (differences xs) c.args.ranks.now (rows_at-none (differences xs));
      walked =
          walked-first xs old c.args.ranks.now c.args.doc_id_start c.min-doc_id.result c.offset_at-end.result within
          c.offset_at-end.ensures (sym first ∙ sym c.offset_at-end.ensures) c.requires.start;
    }

pub loop-at-preserved : goal.loop-at-preserved
loop-at-preserved c =
    let xs = c.args.self.now in
    let old = c.offsets_never_fall.ensures in
    let l = c.loop-at in
    let ps = c.args.ranks.now in
    let read = selected-read (differences xs) ps l.ranks l.kept l.at l.invariant.selected in
    let inside : l.at < length ps = omega (arith, l.invariant.selected.long) in
    let far : l.«end» ≤ get_or ps l.at 0 = omega (arith, read) in
    let row = c.row_of-row.result in
    let here : HasPosition xs row (get_or ps l.at 0) = record {
      inside = c.row_of-row.ensures.inside;
      low = omega (arith, read, c.row_of-row.ensures.start);
      high = omega (arith, read, c.row_of-row.ensures.«end»);
    } in
    record {
      selected =
          selected-next (differences xs) ps l.ranks l.kept l.at l.invariant.selected row (omega arith)
          (walked-next_rows xs old ps l.at l.doc_id l.«end» c.requires.rising inside c.requires.below l.invariant.walked
          row here far);
      walked =
          walked-next xs old ps l.at l.doc_id l.«end» c.requires.rising inside c.requires.below l.invariant.walked
          row here (row + 1) c.offset_at-end-in-loop-at.result refl c.offset_at-end-in-loop-at.ensures;
    }
