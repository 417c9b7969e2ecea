use Rattle.std.proofs.Common.{◌≡◌, ◌≤◌, ℕ, ◌+◌, ◌-◌, ◌*◌, ◌/◌, ◌%◌, length, take, sym, arith, refl, subst}
use Rattle.col_bits.proofs.GroupLemmas.{room_for_groups, items_joined}
use Rattle.col_bits.proofs.bit_unpacker.BitUnpacker.read_in_groups.Goals as goal

pub read_groups_by_width-requires-clause-padded : goal.read_groups_by_width-requires-clause-padded
read_groups_by_width-requires-clause-padded c =
    let a = c.args in
    let head : ℕ = (8 - a.start % 8) % 8 in
    let n : ℕ = (a.start + head) / 8 + (length a.output.now - head) / 8 in
    subst (λ w. n * w + 8 ≤ length a.«data».now) (sym c.self.view_is) (room_for_groups n
    (a.start + length a.output.now) a.self.now (length a.«data».now) (omega arith) c.requires.padded)

pub read-requires-3-clause-so_far : goal.read-requires-3-clause-so_far
read-requires-3-clause-so_far c =
    let a = c.args in
    let head : ℕ = (8 - a.start % 8) % 8 in
    let groups : ℕ = (length a.output.now - head) / 8 in
    let whole : a.start + head ≡ 8 * ((a.start + head) / 8) = omega arith in
    items_joined a.«data».now c.self.inside.num_bits a.self.now a.start head (8 * groups)
    (8 * ((a.start + head) / 8)) (head + 8 * groups) (take head c.read-2.new.output) _ c.self.view_is whole refl
    c.read-2.ensures c.read_groups_by_width.ensures
