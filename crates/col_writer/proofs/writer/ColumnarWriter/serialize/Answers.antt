use Rattle.std.proofs.Common.{◌∙◌, ap, map, subst}
use Rattle.std.specs.Prelude.{option_map}
use Rattle.col_model.specs.Written.{written}
use Rattle.col_writer_file.specs.Tables.{named_entry, WritesTable}
use Rattle.col_writer.specs.Columns.{columns_of}
use Rattle.col_writer.proofs.ListingLemmas.{content-sorted}
use Rattle.col_writer.proofs.writer.ColumnarWriter.serialize.Goals as goal

pub serialize_table-requires : goal.serialize_table-requires
serialize_table-requires g c =
    let w = c.self.inside in
    let m = columns_of w.numerical w.bytes w.strs w.bools w.ip_addrs w.datetimes in
    content-sorted m _ c.args.self.now
    (ap (map named_entry) c.deref.ensures.value ∙ c.in_ok-columns.ensures) c.self.view_is

pub returns : goal.returns
returns g c =
    let perm = option_map (λ s. s.now) c.args.old_to_new_row_ids in
    subst (λ w. WritesTable (g.K.Sink.seen c.args.sink.now) (g.K.Sink.seen c.serialize_table.new.sink)
    c.serialize_table.result (written w c.args.num_docs perm))
    (ap (map named_entry) c.deref.ensures.value ∙ c.in_ok-columns.ensures) c.serialize_table.ensures
