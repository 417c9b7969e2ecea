use Rattle.std.proofs.Common.{List, ℕ, ap, ◌∙◌}
use Rattle.std.specs.List.{range_with_len}
use Rattle.col_places.specs.Places.{AliveRows}
use Rattle.col_segments.specs.Files.{table_in}
use Rattle.col_segments.specs.Segments.{HeldTable}
use Rattle.col_segments.proofs.FileLemmas.{as-many, reader-of}
use Rattle.col_segments.proofs.opening.opened_whole.Goals as goal

pub invariant_of-segment : goal.invariant_of-segment
invariant_of-segment c =
    let reads = reader-of c.args.file c.args.reader c.requires.table c.requires.told c.file_is_whole.ensures.told in
    record {
      table = c.requires.table;
      count =
          ap (λ (a : AliveRows). a.count) c.in_ok-alive.ensures
          ∙ as-many c.args.file c.args.reader c.num_docs.result reads c.num_docs.ensures;
    }

pub returns-clause-segment : goal.returns-clause-segment
returns-clause-segment c =
    let reads = reader-of c.args.file c.args.reader c.requires.table c.requires.told c.file_is_whole.ensures.told in
    let own : List ℕ → HeldTable = λ rows. record { table = table_in c.args.file; alive = rows } in
    ap own (ap (λ (a : AliveRows). a.rows) c.in_ok-alive.ensures
    ∙ ap (range_with_len 0) (as-many c.args.file c.args.reader c.num_docs.result reads c.num_docs.ensures))

pub returns-clause-reader : goal.returns-clause-reader
returns-clause-reader c = reader-of c.args.file c.args.reader c.requires.table c.requires.told c.file_is_whole.ensures.told
