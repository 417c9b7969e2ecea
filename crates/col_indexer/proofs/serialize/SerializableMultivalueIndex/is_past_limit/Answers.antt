use Rattle.std.proofs.Common.{◌-◌, ◌^◌, length, sym, arith}
use Rattle.std.proofs.lemmas.Bool.{lt-leb}
use Rattle.col_indexer.specs.Written.{row_offsets_of}
use Rattle.col_indexer.proofs.ListSpellingLemmas.{rows-few}
use Rattle.col_indexer.proofs.serialize.SerializableMultivalueIndex.is_past_limit.Goals as goal

pub returns-then-rows-lt4294967295 : goal.returns-then-rows-lt4294967295
returns-then-rows-lt4294967295 c =
    let o = row_offsets_of c.args.self.now in
    let few = rows-few o.set c.requires.offsets.rows in
    sym (lt-leb (2 ^ 32 - 1) (length o.set.rows) (omega (arith, few, c.if-rows-lt4294967295.true)))
