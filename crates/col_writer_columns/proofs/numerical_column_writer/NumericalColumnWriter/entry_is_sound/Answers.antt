use Rattle.col_writer_columns.proofs.SoundLemmas.{entry-sound}
use Rattle.col_writer_columns.proofs.numerical_column_writer.NumericalColumnWriter.entry_is_sound.Goals as goal

pub returns : goal.returns
returns c =
    let w = c.self.inside in
    entry-sound w.accepted w.types w.column w.tie_start c.args.self.now c.values.result.now c.self.invariant
    c.self.view_is c.are_numerical.ensures c.values.ensures.values c.codes_fit.ensures
