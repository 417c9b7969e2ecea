use Rattle.std.proofs.Common.{◌≡◌, false, inr, refl, sym, ap, ◌∙◌}
use Rattle.col_model.specs.Refusal.{bad_order}
use Rattle.col_segments.specs.Segments.{alive_count, are_places}
use Rattle.col_segments.proofs.AddLemmas.{dropped-refused, spelled}
use Rattle.col_segments.proofs.segments.Segments.drop_spelled.Goals as goal

pub returns-then-not-are_places : goal.returns-then-not-are_places
returns-then-not-are_places c =
    let hs = c.args.self.now in
    let ids = c.in_ok-ids.ids.items in
    let there = sym c.deref.ensures.value in
    let fails : are_places 0 (alive_count hs) ids ≡ false =
    ap (are_places 0 (alive_count hs)) there ∙ sym c.are_places.ensures ∙ c.if-not-are_places.true in
    record {
      ok = tt;
      refused = inr (bad_order, spelled c.args.bytes.now hs ids c.in_ok-ids.ensures.ok ∙ dropped-refused ids hs fails, refl);
      kept = refl;
    }
