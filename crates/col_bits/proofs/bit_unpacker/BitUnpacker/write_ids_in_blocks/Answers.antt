use Rattle.std.proofs.Common.{ℕ, ◌+◌, ◌-◌, ◌*◌, ◌/◌, take, arith, refl}
use Rattle.col_bits.proofs.EndLemmas.{blocks_and_rest}
use Rattle.col_bits.proofs.bit_unpacker.BitUnpacker.write_ids_in_blocks.Goals as goal

pub returns-clause-front : goal.returns-clause-front
returns-clause-front c =
    let a = c.args in
    let count : ℕ = a.asked.«end» - a.asked.start in
    let tested : ℕ = a.asked.start + count / 64 * 64 in
    blocks_and_rest a.«data».now c.self.inside.num_bits a.self.now a.asked.low a.asked.high
    (a.asked.low + (c.min-most.result - a.asked.low)) a.asked.start (count / 64 * 64) (a.asked.«end» - tested) tested count
    (take a.at a.output.now) _ _ c.self.view_is c.requires.blocks.narrow (omega arith) refl (omega arith)
    c.write_ids_by_width-kept.ensures.front c.write_ids_by.ensures.front
