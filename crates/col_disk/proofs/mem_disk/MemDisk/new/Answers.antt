use Rattle.std.proofs.Common.{◌≡◌, rules}
use Rattle.col_disk.proofs.HistoryLemmas.{kept_first}
use Rattle.col_disk.proofs.mem_disk.MemDisk.new.Goals as goal

pub invariant_of-result-clause-history : goal.invariant_of-result-clause-history
invariant_of-result-clause-history c =
    let same : c.in_ok-first.first.items ≡ c.args.bytes.items = search rules in
    kept_first _ _ _ same c.new.ensures.items
