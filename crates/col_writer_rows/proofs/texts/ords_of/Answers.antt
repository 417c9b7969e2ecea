use Rattle.std.proofs.Common.{◌∙◌, ap, sym, arith, length, refl, map, get_or, Some}
use Rattle.std.proofs.lemmas.List.{take_all}
use Rattle.col_writer_rows.specs.Terms.{ord_by}
use Rattle.col_writer_rows.proofs.TextLemmas.{ords-next, known-at}
use Rattle.col_writer_rows.proofs.texts.ords_of.Goals as goal

pub loop-id-init : goal.loop-id-init
loop-id-init c = c.in_ok-reserve.ensures.items ∙ c.new-ords.ensures.items

pub to_ord-requires : goal.to_ord-requires
to_ord-requires c = known-at (length c.args.mapping.now) c.args.ids.now c.loop-id.id-index c.requires c.loop-id-test.true

pub loop-id-preserved : goal.loop-id-preserved
loop-id-preserved c =
    ords-next c.args.mapping.now c.args.ids.now c.loop-id.ords.items c.push.new.self.items c.loop-id.id-index
    (get_or c.args.ids.now c.loop-id.id-index 0) c.from.result c.loop-id.invariant c.loop-id-test.true refl
    (c.to_ord.ensures ∙ ap Some (sym c.from.ensures)) c.in_ok-push.ensures.items

pub returns : goal.returns
returns c = c.loop-id.invariant ∙ ap (map (ord_by c.args.mapping.now)) (take_all c.loop-id.id-index c.args.ids.now (omega arith))
