use Rattle.std.proofs.Common.{◌≡◌, ◌++◌, drop, map}
use Rattle.col_writer_file.specs.Tables.{named_entry}
use Rattle.col_writer.specs.Columns.{each_entry}
use Rattle.col_writer.specs.Contents.{under}
use Rattle.col_writer.proofs.writer.serialize.list.Given as goal

-- the columns listed so far, and those left, are those in front and all
abbrev pub invariant-loop-name : goal.invariant-loop-name
invariant-loop-name g l =
    map named_entry l.found.items ++ under g.L.Listing.category (each_entry g.L.Listing.entry (drop l.name-index l.columns))
    ≡ map named_entry l.fn.found.items ++ under g.L.Listing.category (each_entry g.L.Listing.entry l.columns)
