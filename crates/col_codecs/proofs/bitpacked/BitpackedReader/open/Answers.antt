use Rattle.std.proofs.Common.{◌≡◌, ◌*◌, ℕ, List, Bool, true, false, Some, ap, sym, subst, ◌∙◌, arith}
use Rattle.std.proofs.lemmas.Result.{err_from_is_err_and}
use Rattle.col_common.specs.Decoding.{Refuses}
use Rattle.col_bits.specs.Packed.{item, width, is_packed}
use Rattle.col_model.specs.Stats.{Stats, same_stats, stats_of, steps_of}
use Rattle.col_model.proofs.CodecLaws.{is_width-width}
use Rattle.col_model.proofs.ItemLaws.{only_if-some}
use Rattle.col_codecs.specs.Bitpacked.{bitpacked_items}
use Rattle.col_codecs.specs.BlockBounds.{Enclose}
use Rattle.col_codecs.specs.ColumnStats.{stats_seen}
use Rattle.col_codecs.specs.Header.{checked, list_by}
use Rattle.col_codecs.proofs.BitpackedLemmas.{list_by-other, list_by-packed, IsReader-same}
use Rattle.col_codecs.proofs.bitpacked.BitpackedReader.open.Goals as goal

tested : (s : Stats) (bytes read : List ℕ) (w k : ℕ) (b test : Bool) → read ≡ bytes → w ≡ width k → k ≡ steps_of s
    → test ≡ b → test ≡ is_packed read (s.count * w) → is_packed bytes (s.count * width (steps_of s)) ≡ b
tested s bytes read w k b test p q r t e =
    sym (e ∙ ap (λ a. is_packed a (s.count * w)) p ∙ ap (λ v. is_packed bytes (s.count * v)) (q ∙ ap width r)) ∙ t

pub new-bit_unpacker-requires : goal.new-bit_unpacker-requires
new-bit_unpacker-requires c = rw c.compute_num_bits-num_bits.ensures (is_width-width c.steps.result)

pub returns-then-not-is_packed : goal.returns-then-not-is_packed
returns-then-not-is_packed c =
    let s = stats_seen c.args.stats in
    list_by-other s c.args.items (tested s c.args.items c.as_slice-bytes.result.now
    c.compute_num_bits-num_bits.result c.steps.result false c.is_packed.result c.as_slice-bytes.ensures
    c.compute_num_bits-num_bits.ensures c.steps.ensures c.if-not-is_packed.true c.is_packed.ensures)

-- what is expected, by the bytes that were read
expected : (s : Stats) (bytes read : List ℕ) → read ≡ bytes → is_packed bytes (s.count * width (steps_of s)) ≡ true
    → list_by 0 s bytes ≡ checked s (bitpacked_items s read)
expected s bytes read p packed = list_by-packed s bytes packed ∙ ap (λ b. checked s (bitpacked_items s b)) (sym p)

pub returns-in_err-bounds : goal.returns-in_err-bounds
returns-in_err-bounds c =
    let s = stats_seen c.args.stats in
    let p = err_from_is_err_and c.from_residual.result c.from_residual.ensures.1 in
    rw (p.1, p.2) (subst (Refuses c.in_err-bounds.field-0.0)
    (sym (expected s c.args.items c.as_slice-bytes.result.now c.as_slice-bytes.ensures (tested s c.args.items
    c.as_slice-bytes.result.now c.compute_num_bits-num_bits.result c.steps.result true c.is_packed.result
    c.as_slice-bytes.ensures c.compute_num_bits-num_bits.ensures c.steps.ensures c.if-not-is_packed.false
    c.is_packed.ensures)))
    c.in_err-bounds.ensures.list)

pub invariant_of-result : goal.invariant_of-result
invariant_of-result c =
    let s = stats_seen c.args.stats in
    let read = c.as_slice-bytes.result.now in
    let w = c.new-bit_unpacker.result in
    let exact = (only_if-some (same_stats (stats_of (bitpacked_items s read)) s) (bitpacked_items s read)
    (bitpacked_items s read) (sym c.in_ok-bounds.ensures.list)).0 in (
      IsReader-same s c.args.items w c.requires
          (c.new-bit_unpacker.ensures ∙ c.compute_num_bits-num_bits.ensures ∙ ap width c.steps.ensures)
          (omega arith)
          (ap (λ b. same_stats (stats_of (bitpacked_items s b)) s) (sym c.as_slice-bytes.ensures) ∙ exact),
      subst (λ b. Enclose c.in_ok-bounds.bounds.items (item b w) s.count) c.as_slice-bytes.ensures c.in_ok-bounds.ensures.bounds,
    )

pub returns : goal.returns
returns c =
    let s = stats_seen c.args.stats in
    expected s c.args.items c.as_slice-bytes.result.now c.as_slice-bytes.ensures (tested s c.args.items
    c.as_slice-bytes.result.now c.compute_num_bits-num_bits.result c.steps.result true c.is_packed.result
    c.as_slice-bytes.ensures c.compute_num_bits-num_bits.ensures c.steps.ensures c.if-not-is_packed.false
    c.is_packed.ensures)
    ∙ c.in_ok-bounds.ensures.list
    ∙ ap (λ b. Some (bitpacked_items s b)) c.as_slice-bytes.ensures
