use Rattle.std.proofs.Common.{◌≡◌, ◌+◌, ◌-◌, ◌*◌, ◌/◌, ◌^◌, ◌≤◌, ◌++◌, ℕ, min, take, length, ap, sym, ◌∙◌, arith, append-nil, append_assoc, refl}
use Rattle.col_bits.specs.Packed.{items, ids_between}
use Rattle.col_bits.specs.Places.{set_places}
use Rattle.col_bits.proofs.GroupLemmas.{places_of_block, room_for_block, places-room}
use Rattle.col_bits.proofs.EndLemmas.{ids_past, narrowed_written}
use Rattle.col_bits.proofs.ItemLemmas.{ids_none, ids_joined}
use Rattle.col_bits.proofs.const_width.write_ids_of.Goals as goal

pub returns-then-low-greatest-clause-front : goal.returns-then-low-greatest-clause-front
returns-then-low-greatest-clause-front g c =
    let a = c.args in
    sym (append-nil (take a.at a.output.now))
    ∙ ap (λ xs. take a.at a.output.now ++ xs)
    (sym (ids_past a.«data».now g.row.W a.asked.low (a.asked.low + a.asked.span) a.asked.start (a.asked.count / 64 * 64)
    (omega (arith, c.greatest.ensures, c.if-low-greatest.true))))

pub loop-word-init : goal.loop-word-init
loop-word-init g c =
    let a = c.args in
    let cut = c.min-span.result in
    record {
      below = omega arith;
      front =
          sym (append-nil (take a.at a.output.now))
          ∙ ap (λ xs. take a.at a.output.now ++ xs)
          (sym (ids_none a.«data».now g.row.W a.asked.low (a.asked.low + cut) a.asked.start 0 refl));
    }

pub block_hits-hits-requires-clause-room : goal.block_hits-hits-requires-clause-room
block_hits-hits-requires-clause-room g c =
    room_for_block c.args.asked.start c.loop-word.word c.args.asked.count g.row.W (length c.args.data.now) c.requires.aligned
    (omega arith) c.requires.padded

pub loop-word-preserved : goal.loop-word-preserved
loop-word-preserved g c =
    let a = c.args in
    let l = c.loop-word in
    let cut = c.min-span.result in
    let base : ℕ = a.asked.start + l.word * 64 in
    let hits = c.block_hits-hits.result in
    let eighth : 8 * (base / 8) ≡ base = omega (arith, c.requires.aligned) in
    let found : set_places 64 base hits ≡ ids_between a.«data».now g.row.W a.asked.low (a.asked.low + cut) base 64 =
    places_of_block a.«data».now (items a.«data».now g.row.W (8 * (base / 8)) 64) g.row.W a.asked.low (a.asked.low + cut) base hits
    (ap (λ n. items a.«data».now g.row.W n 64) eighth) c.block_hits-hits.ensures in
    record {
      below = omega (arith, places-room 64 base hits, c.write_set_places-kept.ensures.within);
      front = c.write_set_places-kept.ensures.front
          ∙ (ap (λ xs. xs ++ set_places 64 base hits) l.invariant.front
          ∙ (append_assoc (take a.at a.output.now) (ids_between a.«data».now g.row.W a.asked.low (a.asked.low + cut) a.asked.start
          (l.word * 64)) (set_places 64 base hits)
          ∙ ap (λ xs. take a.at a.output.now ++ xs) (ap (λ xs. ids_between a.«data».now g.row.W a.asked.low (a.asked.low + cut)
          a.asked.start (l.word * 64) ++ xs) found
          ∙ sym (ids_joined a.«data».now g.row.W a.asked.low (a.asked.low + cut) a.asked.start (l.word * 64) 64 base
          ((l.word + 1) * 64) refl (omega arith)))));
    }

pub returns-clause-front : goal.returns-clause-front
returns-clause-front g c =
    let a = c.args in
    let q = a.asked in
    let within : q.low ≤ 2 ^ g.row.W - 1 = omega (arith, c.greatest.ensures, c.if-low-greatest.false) in
    let is : c.min-span.result ≡ min q.span (2 ^ g.row.W - 1 - q.low) = omega (arith, c.min-span.ensures, c.greatest-2.ensures) in
    narrowed_written a.«data».now g.row.W q.low q.span c.min-span.result q.start (c.loop-word.word * 64) (q.count / 64 * 64)
    (take a.at a.output.now) _ within is (omega arith) c.loop-word.invariant.front
