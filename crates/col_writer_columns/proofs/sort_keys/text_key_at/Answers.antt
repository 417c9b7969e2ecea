use Rattle.std.proofs.Common.{◌∙◌, ap, sym, Some, ◌+◌}
use Rattle.col_writer_columns.proofs.KeyLemmas.{text-place}
use Rattle.col_writer_columns.proofs.sort_keys.text_key_at.Goals as goal

pub returns-clause-key : goal.returns-clause-key
returns-clause-key c =
    text-place c.args.mapping.now c.args.ids.now c.args.place _ c.to_ord.result.0 c.requires.within c.to_ord.ensures
    ∙ ap (λ n. Some (n + 1)) (sym c.from.ensures)
