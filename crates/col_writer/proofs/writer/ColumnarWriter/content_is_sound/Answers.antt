use Rattle.col_model.specs.Category as categories
use Rattle.col_model.specs.ColumnType as types
use Rattle.col_types.specs.Cells.{bool_cell, unsigned_cell}
use Rattle.std.proofs.Common.{refl}
use Rattle.col_writer_columns.specs.Columns.{text_entry, plain_entry}
use Rattle.col_writer_columns.specs.SoundEntries.{AreSoundTexts}
use Rattle.col_writer_columns.specs.Values.{time_cell}
use Rattle.col_writer.specs.Columns.{columns_of}
use Rattle.col_writer.proofs.SoundLemmas.{each-sound, content-sound}
use Rattle.col_writer.proofs.writer.ColumnarWriter.content_is_sound.Goals as goal

pub returns : goal.returns
returns c =
    let w = c.self.inside in
    let m = columns_of w.numerical w.bytes w.strs w.bools w.ip_addrs w.datetimes in
    content-sound m c.args.self.now c.self.view_is
    (each-sound categories.numerical (λ e. e) _ (λ e h. h) w.numerical c.columns_are_sound.ensures)
    (each-sound categories.bytes (text_entry types.bytes) AreSoundTexts (λ t h. h types.bytes refl) w.bytes
    c.columns_are_sound-2.ensures)
    (each-sound categories.str (text_entry types.str) AreSoundTexts (λ t h. h types.str refl) w.strs
    c.columns_are_sound-3.ensures)
    (each-sound categories.bool (plain_entry types.bool bool_cell) _ (λ v h. h) w.bools c.columns_are_sound-4.ensures)
    (each-sound categories.ip (plain_entry types.ip unsigned_cell) _ (λ v h. h) w.ip_addrs c.columns_are_sound-5.ensures)
    (each-sound categories.datetime (plain_entry types.datetime time_cell) _ (λ v h. h) w.datetimes
    c.columns_are_sound-6.ensures)
