use Rattle.std.proofs.Common.{◌∙◌, ap, sym, Some}
use Rattle.col_types.specs.Kinds.{numerical_kind_of}
use Rattle.col_writer_columns.proofs.KeyLemmas.{number-place}
use Rattle.col_writer_columns.proofs.sort_keys.number_key_at.Goals as goal

pub returns-clause-key : goal.returns-clause-key
returns-clause-key c =
    number-place c.args.types.now c.args.codes.now c.args.place (numerical_kind_of c.get.result) _ c.requires.many
    c.requires.within c.get.ensures ∙ ap Some (sym c.number_key.ensures.key)
