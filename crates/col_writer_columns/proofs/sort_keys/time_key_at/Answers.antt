use Rattle.std.proofs.Common.{◌∙◌, ap, sym, Some, ◌+◌}
use Rattle.col_writer_columns.proofs.KeyLemmas.{time-place}
use Rattle.col_writer_columns.proofs.sort_keys.time_key_at.Goals as goal

pub returns-clause-key : goal.returns-clause-key
returns-clause-key c = time-place c.args.codes.now c.args.place _ c.requires ∙ ap (λ n. Some (n + 1)) (sym c.from.ensures)
