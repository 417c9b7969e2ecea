use Rattle.std.proofs.Common.{◌≡◌, ℕ, ◌+◌, ◌*◌, ◌/◌, ◌%◌, ◌^◌, ◌++◌, [], length, take, refl, sym, ap, ◌∙◌, arith, append-nil}
use Rattle.col_bits.specs.Places.{set_places}
use Rattle.col_bits.proofs.GroupLemmas.{places-room}
use Rattle.col_bits.proofs.PlaceLemmas.{byte_more, count_more, no_places}
use Rattle.col_bits.proofs.places.write_many_places.Goals as goal

pub loop-k-init : goal.loop-k-init
loop-k-init c =
    let a = c.args in
    let none : set_places (8 * 0) a.base a.bits ≡ [] = no_places (8 * 0) a.base a.bits (omega arith) in
    record {
      count = omega (arith, ap length none);
      front = sym (append-nil (take a.at a.output.now)) ∙ ap (λ xs. take a.at a.output.now ++ xs) (sym none);
    }

pub write_byte_places-end-requires-clause-room : goal.write_byte_places-end-requires-clause-room
write_byte_places-end-requires-clause-room c =
    omega (arith, places-room (8 * c.loop-k.k) c.args.base c.args.bits, c.loop-k.invariant.count)

pub loop-k-preserved : goal.loop-k-preserved
loop-k-preserved c =
    let a = c.args in
    let l = c.loop-k in
    let w = c.write_byte_places-end in
    let byte : ℕ = a.bits / 2 ^ (8 * l.k) % 256 in
    record {
      count = count_more l.k (8 * (l.k + 1)) a.base a.bits byte a.at l.«end» w.result refl refl l.invariant.count w.ensures.within;
      front = byte_more l.k (8 * (l.k + 1)) a.base a.bits byte (take a.at a.output.now) (take l.«end» l.output) _ refl refl
          l.invariant.front w.ensures.front;
    }
