-- Which refusals a step may have, and those of segments.
use Rattle.std.proofs.Common.{◌≡◌, ℕ, ◌-◌, ◌^◌, not, nat_le, Bool, true, false, Option, Some, None, Result, Ok, Err, List, [], ◌∷◌, ◌++◌, filter, length}
use Rattle.std.specs.Prelude.{⊤, if◌then◌else◌}
use Rattle.std.specs.FinMap.{put}
use Rattle.std.specs.List.{list_any}
use Rattle.std.proofs.lemmas.Bool.{true≢false}
use Rattle.col_model.specs.Category.{Slot, slot_of, slot_cmp}
use Rattle.col_model.specs.ColumnType.{ColumnType}
use Rattle.col_model.specs.ColumnType as types
use Rattle.col_model.specs.Limits.{is_too_large}
use Rattle.col_model.specs.Recording.{Call, recorded, typed, tied, entry_of, forces_other, is_late, denies, content_after, content_after_all}
use Rattle.col_model.specs.Refusal.{Refusal, ◌>>=◌, refuse_if, or_refuse, each_ok, bad_order, numerical_conflict, too_large, forced_type, doc_order, doc_out_of_range, tie_breaker_start}
use Rattle.col_model.specs.Table.{Column, Table}
use Rattle.col_model.specs.Written.{Entry, Recorded, entry_content, entry_type, is_past_docs, is_past_ties, is_permutation, has_zero, written, written_column}
use Rattle.col_program.specs.Outcome.{segment_table}
use Rattle.col_program.specs.Script.{Segment}

-- the step has no refusals but those of which P holds
abbrev pub Allows : {A : Type 0} → (Refusal → Type 0) → Result A Refusal → Type 0
Allows P (Ok x) = ⊤
Allows P (Err e) = P e

-- P holds of the refusals of segments
pub record AllowsSegments (P : Refusal → Type 0) : Type 0 where
  pub forced_type : P forced_type
  pub doc_order : P doc_order
  pub too_large : P too_large
  pub numerical_conflict : P numerical_conflict
  pub tie_breaker_start : P tie_breaker_start
  pub doc_out_of_range : P doc_out_of_range
  pub bad_order : P bad_order

module _ (P : Refusal → Type 0) where
  -- ---- steps

  pub allows-then : {A B : Type 0} (r : Result A Refusal) (f : A → Result B Refusal) → Allows P r → ((x : A) → Allows P (f x))
      → Allows P (r >>= f)
  allows-then (Ok x) f first second = second x
  allows-then (Err e) f first second = first

  pub allows-test : {A : Type 0} (test : Bool) (e : Refusal) (r : Result A Refusal) → P e → Allows P r
      → Allows P (refuse_if test e >>= λ _. r)
  allows-test true e r other rest = other
  allows-test false e r other rest = rest

  pub allows-or : {A : Type 0} (o : Option A) (e : Refusal) → P e → Allows P (or_refuse o e)
  allows-or (Some x) e other = tt
  allows-or None e other = other

  pub allows-each : {A B : Type 0} (f : A → Result B Refusal) (xs : List A) → ((x : A) → Allows P (f x)) → Allows P (each_ok f xs)
  allows-each f [] own = tt
  allows-each f (x ∷ xs) own =
      allows-then (f x) (λ y. each_ok f xs >>= λ ys. Ok (y ∷ ys)) (own x)
      (λ y. allows-then (each_ok f xs) (λ ys. Ok (y ∷ ys)) (allows-each f xs own) (λ ys. tt))

  pub allows-either : {A : Type 0} (test : Bool) (r s : Result A Refusal) → Allows P r → Allows P s → Allows P (if test then r else s)
  allows-either true r s first second = first
  allows-either false r s first second = second

  -- a test that fails
  pub allows-unmet : {A : Type 0} (test : Bool) (e : Refusal) (r : Result A Refusal) → test ≡ false → Allows P r
      → Allows P (refuse_if test e >>= λ _. r)
  allows-unmet true e r unmet rest = absurd (true≢false unmet)
  allows-unmet false e r unmet rest = rest

  module _ (k : AllowsSegments P) where
    -- ---- segments

    allows-call : (w : Recorded) (call : Call) → Allows P (content_after w call)
    unfolding content_after
    allows-call w (recorded d name t cell) =
        let e = entry_of w (slot_of name t) in
        let own : Entry = record {
          records = e.records ++ record { doc = d; recorded_type = t; cell = cell } ∷ [];
          forced = e.forced;
          sorts = e.sorts;
          tie_start = e.tie_start;
        } in
        let made : Result Recorded Refusal = Ok (put slot_cmp (slot_of name t) own w) in
        let few : Result Recorded Refusal = refuse_if (nat_le (2 ^ 32 - 1) (length e.records)) too_large >>= λ _. made in
        let in_order : Result Recorded Refusal = refuse_if (is_late e.records d) doc_order >>= λ _. few in
        allows-test (forces_other e.forced t) forced_type in_order k.forced_type
        (allows-test (is_late e.records d) doc_order few k.doc_order
        (allows-test (nat_le (2 ^ 32 - 1) (length e.records)) too_large made k.too_large tt))
    allows-call w (typed name t sorts) =
        let e = entry_of w (slot_of name t) in
        let own : Entry = record { records = e.records; forced = Some t; sorts = sorts; tie_start = e.tie_start } in
        allows-test (denies e t) forced_type (Ok (put slot_cmp (slot_of name t) own w)) k.forced_type tt
    allows-call w (tied name start) =
        let e = entry_of w (slot_of name types.i64) in
        let own : Entry = record { records = e.records; forced = Some types.i64; sorts = e.sorts; tie_start = Some start } in
        allows-test (denies e types.i64) forced_type (Ok (put slot_cmp (slot_of name types.i64) own w)) k.forced_type tt

    allows-calls : (w : Recorded) (calls : List Call) → Allows P (content_after_all w calls)
    allows-calls w [] = tt
    allows-calls w (call ∷ calls) =
        allows-then (content_after w call) (λ next. content_after_all next calls) (allows-call w call)
        (λ next. allows-calls next calls)

    allows-column : (n : ℕ) (perm : Option (List ℕ)) (p : Slot × Entry) → Allows P (written_column n perm p)
    allows-column n perm (slot, e) =
        let content = entry_content e n perm in
        let made : ColumnType → Result Column Refusal = λ t. Ok (record { name = slot.name; column_type = t; content = content }) in
        let small : ColumnType → Result Column Refusal = λ t. refuse_if (is_too_large t content) too_large >>= λ _. made t in
        let tied : ColumnType → Result Column Refusal = λ t. refuse_if (is_past_ties n e.tie_start) tie_breaker_start >>= λ _. small t in
        allows-then (or_refuse (entry_type slot.category e) numerical_conflict) tied
        (allows-or (entry_type slot.category e) numerical_conflict k.numerical_conflict)
        (λ t. allows-test (is_past_ties n e.tie_start) tie_breaker_start (small t) k.tie_breaker_start
        (allows-test (is_too_large t content) too_large (made t) k.too_large tt))

    allows-written : (w : Recorded) (n : ℕ) (perm : Option (List ℕ)) → Allows P (written w n perm)
    unfolding written
    allows-written w n perm =
        let named = filter (λ (p : Slot × Entry). not (has_zero p.0.name)) w in
        let columns : Result (List Column) Refusal = each_ok (written_column n perm) named in
        let table : List Column → Result Table Refusal = λ columns. Ok (record { row_count = n; columns = columns }) in
        let ordered : Result Table Refusal = refuse_if (not (is_permutation n perm)) bad_order >>= λ _. columns >>= table in
        allows-test (list_any (is_past_docs n) w) doc_out_of_range ordered k.doc_out_of_range
        (allows-test (not (is_permutation n perm)) bad_order (columns >>= table) k.bad_order
        (allows-then columns table (allows-each (written_column n perm) named (allows-column n perm)) (λ columns. tt)))

    pub allows-segment : (s : Segment) → Allows P (segment_table s)
    allows-segment s =
        allows-then (content_after_all [] s.calls) (λ w. written w s.count None) (allows-calls [] s.calls)
        (λ w. allows-written w s.count None)
