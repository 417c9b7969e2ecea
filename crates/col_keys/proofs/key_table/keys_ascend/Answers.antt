use Rattle.std.proofs.Common.{ap, sym, ◌-◌, arith}
use Rattle.col_common.specs.Ascending.{is_ascending}
use Rattle.col_model.specs.Keys.{key_bytes}
use Rattle.col_keys.specs.KeyTables.{key_seen}
use Rattle.col_keys.proofs.KeyLemmas.{key_texts, ascending-done}
use Rattle.col_keys.proofs.key_table.keys_ascend.Goals as goal

pub loop-i-init : goal.loop-i-init
loop-i-init c = ap is_ascending (key_texts c.args.keys.now)

pub returns : goal.returns
returns c = sym (ascending-done (λ k. key_bytes (key_seen k.key)) c.args.keys.now (c.loop-i.i - 1) _ (omega arith) c.loop-i.invariant)
