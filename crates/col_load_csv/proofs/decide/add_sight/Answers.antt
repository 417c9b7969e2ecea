use Rattle.std.proofs.Common.{◌≡◌, string_bytes}
use Rattle.std.proofs.lemmas.Map.Text.{btree_map_updates_text}
use Rattle.std.proofs.lemmas.Result.{IfOk-at_ok}
use Rattle.col_load_csv.proofs.KindLemmas.{adds_sight}
use Rattle.col_load_csv.proofs.decide.add_sight.Goals as goal

pub returns : goal.returns
returns c =
    let key = IfOk-at_ok (λ s. string_bytes s ≡ c.args.name.now) c.in_ok-key.was c.from_str.ensures.ok in
    let sets = btree_map_updates_text (string_bytes c.in_ok-key.key) c.args.sights.now c.insert.new.self _ c.in_ok-insert.ensures.updates in
    adds_sight c.args.sights.now c.insert.new.self c.args.name.now c.args.own
    (rw (key, c.merged-all.ensures, c.sight_under.ensures) at sets)
