use Rattle.col_disk.proofs.HistoryLemmas.{kept_synced, sync_idle, sync_pending}
use Rattle.col_disk.proofs.mem_disk.MemDiskDisk.sync.Goals as goal

pub invariant_of-self-then-self-clause-history : goal.invariant_of-self-then-self-clause-history
invariant_of-self-then-self-clause-history c = kept_synced c.args.self.now.history _ c.push_reserved.ensures.items

pub returns-then-self : goal.returns-then-self
returns-then-self c = sync_pending c.args.self.now.history _ c.push_reserved.ensures.items _ _ c.in_ok-counted.ensures.cause

pub returns-else-self : goal.returns-else-self
returns-else-self c = sync_idle c.args.self.now.history c.if-self.false _ _ c.in_ok-counted.ensures.cause
