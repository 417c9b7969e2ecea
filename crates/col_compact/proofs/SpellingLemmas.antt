-- Ranges on their way into a sink.
use Rattle.std.proofs.Common.{◌≡◌, ℕ, ◌+◌, ◌-◌, ◌^◌, ◌<◌, ◌≤◌, List, [], ◌∷◌, ◌++◌, length, drop, slice_index_or, Ok, Err, refl, sym, ◌∙◌, subst, arith, append_assoc, append-nil}
use Rattle.std.specs.List.{flat_map}
use Rattle.std.proofs.lemmas.List.{drop_more, drop_all}
use Rattle.col_common.specs.Outside.{SeenSink}
use Rattle.col_common.specs.Serializing.{Serializes}
use Rattle.col_common.specs.declared.error.ColumnarError.{ColumnarError}
use Rattle.col_common.proofs.SerializingLemmas.{serializes-then, serializes-as, serializes-nothing, serializes-refused}
use Rattle.col_model.specs.AddressList.{range_size, code_count}
use Rattle.col_compact.specs.declared.compact_space.RangeMapping.{RangeMapping}
use Rattle.col_compact.specs.Mapped.{AreMapped, IsSpace, ranges_of}
use Rattle.col_compact.specs.Written.{pairs_of, pair_bytes}
use Rattle.col_compact.proofs.SpaceLemmas.{ends}

-- the ranges before those that are left were added, the last of which ends at `before`
pub record Spelling (before : ℕ) (left : List RangeMapping) (all : List ℕ) (a b : SeenSink) : Type 0 where
  pub bytes : List ℕ
  pub whole : bytes ++ flat_map pair_bytes (pairs_of before (ranges_of left)) ≡ all
  pub done : Serializes a b (Ok tt) bytes
  pub floor : ℕ
  pub code : ℕ
  pub code_end : ℕ
  pub ordered : AreMapped floor code left (2 ^ 128 + 3) code_end
  pub low : before ≤ floor

-- before any range is spelled, all pairs are left
pub spelling-none : (ms : List RangeMapping) (a : SeenSink) → IsSpace ms
    → Spelling 0 ms (flat_map pair_bytes (pairs_of 0 (ranges_of ms))) a a
spelling-none ms a space = record {
  bytes = [];
  whole = refl;
  done = serializes-nothing a tt;
  floor = 0;
  code = 1;
  code_end = 1 + code_count (ranges_of ms);
  ordered = space.mapped;
  low = omega arith;
}

next : (ms : List RangeMapping) (i : ℕ) (d : RangeMapping) (before : ℕ) (all : List ℕ) (a b : SeenSink)
    → i < length ms → Spelling before (drop i ms) all a b
    → Spelling before (slice_index_or ms i d ∷ drop (i + 1) ms) all a b
next ms i d before all a b inside s = subst (λ left. Spelling before left all a b) (drop_more ms i d inside) s

module _ (m : RangeMapping) (left : List RangeMapping) (before : ℕ) (all : List ℕ) (a b : SeenSink)
    (s : Spelling before (m ∷ left) all a b) where
  head_ordered : (before ≤ m.start) × (m.start ≤ m.end) × (m.end < 2 ^ 128)
  unfolding AreMapped
  head_ordered =
      let behind = ends (m.end + 4) (s.code + range_size (m.start, m.end)) left (2 ^ 128 + 3) s.code_end s.ordered.3 in
      (omega (arith, s.low, s.ordered.0), s.ordered.1, omega (arith, behind.0))

  head_more : (c : SeenSink) (done : Unit {0})
      → Serializes b c (Ok done) (pair_bytes (m.start - before, m.end - m.start)) → Spelling m.end left all a c
  unfolding AreMapped pairs_of
  head_more c done added = record {
    bytes = s.bytes ++ pair_bytes (m.start - before, m.end - m.start);
    whole =
        append_assoc s.bytes (pair_bytes (m.start - before, m.end - m.start))
        (flat_map pair_bytes (pairs_of m.end (ranges_of left))) ∙ s.whole;
    done = serializes-then a b c tt (Ok tt) s.bytes (pair_bytes (m.start - before, m.end - m.start)) s.done added;
    floor = m.end + 4;
    code = s.code + range_size (m.start, m.end);
    code_end = s.code_end;
    ordered = s.ordered.3;
    low = omega arith;
  }

-- the same at place i of the ranges
module _ (ms : List RangeMapping) (i : ℕ) (d : RangeMapping) (before : ℕ) (all : List ℕ) (a b : SeenSink)
    (inside : i < length ms) (s : Spelling before (drop i ms) all a b) where
  -- a range starts at the last one's end or behind, ends at its start or behind, and below 2 ^ 128
  pub spelling-ordered : (before ≤ (slice_index_or ms i d).start)
      × ((slice_index_or ms i d).start ≤ (slice_index_or ms i d).end) × ((slice_index_or ms i d).end < 2 ^ 128)
  spelling-ordered = head_ordered (slice_index_or ms i d) (drop (i + 1) ms) before all a b (next ms i d before all a b inside s)

  -- the pair of the next range written, one range less is left
  pub spelling-more : (c : SeenSink) (done : Unit {0})
      → Serializes b c (Ok done) (pair_bytes
      ((slice_index_or ms i d).start - before, (slice_index_or ms i d).end - (slice_index_or ms i d).start))
      → Spelling (slice_index_or ms i d).end (drop (i + 1) ms) all a c
  spelling-more c done added =
      head_more (slice_index_or ms i d) (drop (i + 1) ms) before all a b (next ms i d before all a b inside s) c
      done added

-- a pair that stops the sink stops the spelling of all
pub spelling-stopped :
    (before : ℕ) (left : List RangeMapping) (all pair : List ℕ) (a b c : SeenSink) (e : ColumnarError)
    → Spelling before left all a b → Serializes b c (Err e) pair → Serializes a c (Err e) all
spelling-stopped before left all pair a b c e s refused = serializes-refused a b c tt e s.bytes pair all s.done refused

-- where no range is left, all pairs were spelled
pub spelling-all : (ms : List RangeMapping) (i before : ℕ) (all : List ℕ) (a b : SeenSink) → length ms ≤ i
    → Spelling before (drop i ms) all a b → Serializes a b (Ok tt) all
unfolding pairs_of
spelling-all ms i before all a b past s =
    let none : drop i ms ≡ [] = drop_all i ms past in
    serializes-as a b (Ok tt) s.bytes all s.done (sym (append-nil s.bytes)
    ∙ subst
    (λ (left : List RangeMapping). s.bytes ++ flat_map pair_bytes (pairs_of before (ranges_of left)) ≡ all) none
    s.whole)
