use Rattle.std.proofs.Common.{List, ℕ, map, ap, ◌∙◌}
use Rattle.std.specs.List.{list_all}
use Rattle.col_file.specs.Checks.{is_column}
use Rattle.col_segments.proofs.FileLemmas.{told-all}
use Rattle.col_segments.proofs.opening.are_columns.Goals as goal

pub returns-in-Ok-clause-whole : goal.returns-in-Ok-clause-whole
returns-in-Ok-clause-whole c =
    let keys = c.args.reader.now.keys in
    told-all c.args.reader.now.file.told (λ (bytes : List ℕ). map (is_column bytes keys) keys.entries) c.in-Ok.whole.items
    c.all_set.result (c.all_set.ensures ∙ ap (list_all (λ w. w)) c.deref.ensures.value) c.in-Ok.ensures.ok
