use Rattle.std.proofs.Common.{arith}
use Rattle.col_disk.proofs.HistoryLemmas.{kept_written, writes}
use Rattle.col_disk.proofs.mem_disk.MemDiskDisk.write_at.Goals as goal

pub invariant_of-self-2-clause-history : goal.invariant_of-self-2-clause-history
invariant_of-self-2-clause-history c =
    kept_written c.args.self.now.history _ c.deref-2.ensures.value c.in_ok-write.ensures.made c.requires c.reserve.ensures.items
    c.push_reserved.ensures.items

pub returns : goal.returns
returns c =
    writes c.args.self.now.history _ c.deref-2.ensures.value c.in_ok-write.ensures.made c.requires c.reserve.ensures.items
    c.push_reserved.ensures.items c.counted.result _ _ _ c.counted.ensures.failed c.counted.ensures.done
    c.in_ok-write.ensures.whole (omega (arith, c.in_ok-write.new.small)) c.counted.ensures.cause
