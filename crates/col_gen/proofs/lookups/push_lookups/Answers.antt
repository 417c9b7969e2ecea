use Rattle.std.proofs.lemmas.Result.{on_ok_weaker}
use Rattle.col_gen.proofs.AddedLemmas.{four-printed}
use Rattle.col_gen.proofs.lookups.push_lookups.Goals as goal

pub returns : goal.returns
returns c =
    on_ok_weaker c.push_addr_find.result (four-printed _ _ _ _ _ _ _ _ _ c.in_ok-push_size_find.ensures
    c.in_ok-push_city_find.ensures c.in_ok-push_delta_find.ensures) c.push_addr_find.ensures
