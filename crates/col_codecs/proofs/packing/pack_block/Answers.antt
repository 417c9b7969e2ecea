use Rattle.std.proofs.Common.{◌≡◌, ◌<◌, ◌++◌, length, ℕ, take, get_or, subst, List, Result, Ok, Err, OnOk}
use Rattle.std.proofs.lemmas.List.{take_more, take_all}
use Rattle.col_bits.specs.Packed.{packed_bytes}
use Rattle.col_bits.proofs.PackingLemmas.{IsPacking-nil, IsPacking-push, IsPacking-close}
use Rattle.col_codecs.proofs.packing.pack_block.Goals as goal

-- what three facts that hold where the result is Ok give there
on_ok_three : {T E A B C D : Type 0} (r : Result T E) → (A → B → C → D) → OnOk r A → OnOk r B → OnOk r C → OnOk r D
on_ok_three (Ok x) f a b c = f a b c
on_ok_three (Err e) f a b c = tt

pub loop-value-init : goal.loop-value-init
loop-value-init c = rw (c.new-packer.ensures) (IsPacking-nil c.args.output.now.items c.args.num_bits)

pub loop-value-preserved : goal.loop-value-preserved
loop-value-preserved c =
    let values = c.args.vals.now in
    let i = c.loop-value.value-index in
    let below : i < length values = c.loop-value-test.true in
    rw (take_more values i 0 below)
    (IsPacking-push c.args.output.now.items c.args.num_bits (take i values) c.loop-value.packer c.write.new.self
    c.loop-value.output.items c.write.new.output.items (get_or values i 0) c.loop-value.invariant
    c.in_ok-write.ensures.bits c.in_ok-write.ensures.count c.in_ok-write.ensures.bytes)

pub returns : goal.returns
returns c =
    let values = c.args.vals.now in
    let i = c.loop-value.value-index in
    let before = c.args.output.now.items in
    let whole : take i values ≡ values = take_all i values c.loop-value-test.false in
    subst (λ (items : List ℕ). OnOk c.close.result (c.close.new.output.items ≡ before ++ packed_bytes c.args.num_bits items)) whole
    (on_ok_three c.close.result (IsPacking-close before c.args.num_bits (take i values) c.loop-value.packer
    c.loop-value.output.items c.close.new.output.items c.loop-value.invariant) c.close.ensures.bits
    c.close.ensures.count c.close.ensures.bytes)
