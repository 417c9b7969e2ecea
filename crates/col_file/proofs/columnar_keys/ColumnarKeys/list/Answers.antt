use Rattle.std.proofs.Common.{◌≡◌, ℕ, ◌+◌, List, [], ◌∷◌, ◌++◌, map, String, Global, Some, string_bytes, refl, sym, ap, ◌∙◌}
use Rattle.std.proofs.lemmas.List.{map_push}
use Rattle.col_file.specs.Handles.{Handle}
use Rattle.col_file.proofs.ListLemmas.{listed-next}
use Rattle.col_file.proofs.columnar_keys.ColumnarKeys.list.Goals as goal

pub loop-at-preserved : goal.loop-at-preserved
loop-at-preserved c =
    let named : String Global × Handle → List ℕ × Handle = λ p. (string_bytes p.0, p.1) in
    let so_far = c.loop-at.found.items in
    let name = c.in_ok-name.name in
    let h = c.handle_at.result in
    let more : map named c.push.new.self.items ≡ map named so_far ++ (string_bytes name, h) ∷ [] =
    rw c.in_ok-push.ensures.items (map_push named so_far (name, h)) in
    more ∙ listed-next c.args.self.now.entries c.loop-at.at (c.loop-at.at + 1) (string_bytes name) h
    (map named so_far) refl (c.name_at.ensures ∙ ap Some (sym c.in_ok-name.ensures.ok)) c.handle_at.ensures
    c.loop-at.invariant
