use Rattle.std.proofs.Common.{◌≡◌, ◌∙◌, find, length, map, ap, arith}
use Rattle.std.specs.Vec.Iter.{into_iter_items}
use Rattle.col_file.specs.Handles.{handle_of, entries_named}
use Rattle.col_merge.specs.Opened.{is_in}
use Rattle.col_merge.proofs.OpenLemmas.{found-handle}
use Rattle.col_merge.proofs.opening.find_handle.Goals as goal

pub loop-handle-init : goal.loop-handle-init
loop-handle-init g c =
    let s = c.args.slot.now in
    let es = c.args.reader.now.keys.entries in
    let gives = c.into_iter-handle-iterator.ensures.into_iter_gives in
    let is : into_iter_items c.into_iter-handle-iterator.result ≡ map handle_of (entries_named s.name es) =
    gives.0 ∙ c.in_ok-handles.ensures.ok ∙ ap (λ name. map handle_of (entries_named name es)) c.name.ensures in
    let many = ap length gives.0 in
    let long = gives.1 in
    (ap (find (is_in s.category)) is ∙ found-handle s es, omega (arith, c.in_ok-handles.handles.ok.0))
