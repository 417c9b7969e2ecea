use Rattle.std.proofs.Common.{◌-◌, length, map}
use Rattle.col_load_csv.specs.Read.{column_read}
use Rattle.col_load_csv.specs.Readers.{left_of}
use Rattle.col_load_csv.proofs.RecordLemmas.{HasSeen}
use Rattle.col_load_csv.proofs.decide.see_records.Given as goal

-- the records so far were seen, and the others are left
abbrev pub invariant-loop : goal.invariant-loop
invariant-loop l =
    HasSeen (map column_read l.columns) (length l.columns) (left_of l.most l.initial.reader) l.reader (l.most - l.counter) l.seen.items
