use Rattle.std.proofs.Common.{map, ap, ◌∙◌}
use Rattle.col_keys.specs.KeyTables.{all_keyed}
use Rattle.col_model.specs.Keys.{are_keys}
use Rattle.col_model.proofs.DecodedTables.{keys_of_entries}
use Rattle.col_file.proofs.columnar_keys.ColumnarKeys.new.Goals as goal

pub invariant_of-result : goal.invariant_of-result
invariant_of-result c =
    ap (λ es. are_keys (map (λ e. e.key) es)) c.in_ok-columns.ensures
    ∙ ap are_keys (keys_of_entries 0 (all_keyed c.args.columns.items)) ∙ c.requires.keys
