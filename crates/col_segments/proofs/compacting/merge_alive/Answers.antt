use Rattle.std.proofs.Common.{◌≡◌, List, [], map, ap, ◌∙◌, subst}
use Rattle.col_model.specs.File.{part_of_table}
use Rattle.col_model.specs.Merge.{merged}
use Rattle.col_model.specs.Order.{Order, shuffle}
use Rattle.col_model.specs.Table.{Table}
use Rattle.col_order.specs.Orders.{Shuffle}
use Rattle.col_order.specs.RowOrders.{order_of}
use Rattle.col_segments.specs.Compaction.{MergesRows}
use Rattle.col_segments.specs.Live.{addresses, with_alive}
use Rattle.col_segments.proofs.MergeLemmas.{all-again, files-rows}
use Rattle.col_segments.proofs.ReaderLemmas.{kept_tables}
use Rattle.col_segments.proofs.compacting.merge_alive.Goals as goal

pub returns-in-Ok-clause-made : goal.returns-in-Ok-clause-made
returns-in-Ok-clause-made c =
    let tables : List Table = kept_tables c.args.held.now in
    let counts = c.deref.ensures.value ∙ c.in_ok-counts.ensures ∙ files-rows tables c.args.readers.now c.requires.open_ in
    let named = c.in_ok-rows.ensures in
    let same : order_of c.from.result ≡ shuffle (map (λ t. t.row_count) tables) (addresses (with_alive c.args.held.now)) =
    c.from.ensures ∙ ap (λ (s : Shuffle). shuffle s.counts s.addresses) c.in-Ok.ensures.ok ∙ (λ i. shuffle (counts i) (named i)) in
    subst (λ (o : Order). MergesRows c.merge_rows.result (merged (map part_of_table tables) [] o)) same
    (c.merge_rows.ensures.made tables c.requires.open_)

pub returns-in-Ok-clause-open_ : goal.returns-in-Ok-clause-open_
returns-in-Ok-clause-open_ c =
    all-again c.args.held.now c.args.readers.now c.merge_rows.new.readers c.requires c.merge_rows.ensures.kept
