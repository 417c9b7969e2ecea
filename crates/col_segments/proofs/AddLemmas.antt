-- Files that are added, and rows that are dropped.
use Rattle.std.proofs.Common.{◌≡◌, ◌≢◌, inl, inr, ℕ, ◌+◌, ◌<◌, ◌≤◌, ◌^◌, true, false, not, nat_le, List, [], ◌∷◌, ◌++◌, length, Result, Ok, Err, refl, sym, ap, ◌∙◌, subst, arith}
use Rattle.std.specs.Prelude.{if◌then◌else◌}
use Rattle.std.proofs.lemmas.Bool.{le-leb, lt-leb, leb-false, ne_eqb}
use Rattle.std.proofs.lemmas.List.Sums.{sum_by-append, sum_by-cons}
use Rattle.col_common.specs.declared.error.ColumnarError.{ColumnarError}
use Rattle.col_model.specs.Refusal.{Refusal, ◌>>=◌, refuse_if, or_refuse, invalid_data, bad_order, too_large}
use Rattle.col_model.proofs.RefusalLaws.{bind-ok, refuse_if-ok, same_Ok}
use Rattle.col_model.proofs.StackTables.{not-refused}
use Rattle.col_segments.specs.Files.{IsTableFile, table_in}
use Rattle.col_segments.specs.RowIds.{row_ids}
use Rattle.col_segments.specs.Segments.{HeldTable, alive_count, all_alive, whole_file, added_file, appended, with_more, are_places, without, dropped, spelled_dropped, changed}
use Rattle.col_segments.proofs.FileLemmas.{file-whole}
use Rattle.col_writer_columns.specs.Answers.{MayRefuse}

-- a file that isn't opened isn't added
pub added-refused : (bytes : List ℕ) (hs : List HeldTable) (e : ColumnarError) → MayRefuse (whole_file bytes) e
    → MayRefuse (added_file bytes hs) e
unfolding added_file
added-refused bytes hs e (inl memory) = inl memory
added-refused bytes hs e (inr (r, is, answer)) = inr (r, rw is refl, answer)

-- nor one that makes the rows too many
pub added-too_large : (bytes : List ℕ) (hs : List HeldTable) (h : HeldTable) → whole_file bytes ≡ Ok h
    → 2 ^ 32 ≤ alive_count hs + length h.alive → added_file bytes hs ≡ Err too_large
unfolding added_file
added-too_large bytes hs h is many =
    rw is (ap (λ b. refuse_if b too_large >>= λ _. Ok h) (le-leb (2 ^ 32) (alive_count hs + length h.alive) many))

-- another one is
pub added-ok : (bytes : List ℕ) (hs : List HeldTable) (h : HeldTable) → whole_file bytes ≡ Ok h
    → alive_count hs + length h.alive < 2 ^ 32 → added_file bytes hs ≡ Ok h
unfolding added_file
added-ok bytes hs h is few =
    rw is (ap (λ b. refuse_if b too_large >>= λ _. Ok h) (lt-leb (2 ^ 32) (alive_count hs + length h.alive) few))

-- what is added leaves the rows few
pub added-few : (bytes : List ℕ) (hs : List HeldTable) (h : HeldTable) → added_file bytes hs ≡ Ok h → alive_count (hs ++ h ∷ []) < 2 ^ 32
unfolding added_file
added-few bytes hs h is =
    let after : HeldTable → Result HeldTable Refusal =
    λ g. refuse_if (nat_le (2 ^ 32) (alive_count hs + length g.alive)) too_large >>= λ _. Ok g in
    let first = bind-ok (whole_file bytes) after h is in
    let many = nat_le (2 ^ 32) (alive_count hs + length first.0.alive) in
    let few = not-refused many too_large (λ _. Ok first.0) h first.2 in
    let same : first.0 ≡ h = same_Ok first.0 h (refuse_if-ok many too_large (λ _. Ok first.0) h first.2) in
    let less : alive_count hs + length h.alive < 2 ^ 32 =
    subst (λ (g : HeldTable). alive_count hs + length g.alive < 2 ^ 32) same
    (leb-false (2 ^ 32) (alive_count hs + length first.0.alive) few) in
    omega (
      arith,
      less,
      sum_by-append (λ (g : HeldTable). length g.alive) hs (h ∷ []),
      sum_by-cons (λ (g : HeldTable). length g.alive) h [],
    )

-- a file that was appended stands behind the others
pub appended-behind : (bytes : List ℕ) (hs after : List HeldTable) → appended bytes hs ≡ Ok after
    → (h : HeldTable) × (after ≡ hs ++ h ∷ [])
appended-behind bytes hs after is =
    let step = bind-ok (added_file bytes hs) (with_more hs) after is in
    (step.0, sym (same_Ok (hs ++ step.0 ∷ []) after step.2))

-- a file that was made of a table stands alone
pub appended-alone : (bytes : List ℕ) (made : List HeldTable) → IsTableFile bytes → made ≡ all_alive (table_in bytes) ∷ []
    → alive_count made < 2 ^ 32 → appended bytes [] ≡ Ok made
appended-alone bytes made is alone few =
    let h : HeldTable = all_alive (table_in bytes) in
    let count : alive_count made ≡ length h.alive + alive_count [] =
    ap alive_count alone ∙ sum_by-cons (λ (g : HeldTable). length g.alive) h [] in
    ap (λ r. r >>= with_more []) (added-ok bytes [] h (file-whole bytes is) (omega (arith, few, count))) ∙ ap Ok (sym alone)

-- ---- rows that are dropped

pub dropped-refused : (ids : List ℕ) (hs : List HeldTable) → are_places 0 (alive_count hs) ids ≡ false → dropped ids hs ≡ Err bad_order
dropped-refused ids hs fails = ap (λ b. refuse_if (not b) bad_order >>= λ _. Ok (without ids 0 hs)) fails

pub dropped-ok : (ids : List ℕ) (hs : List HeldTable) → are_places 0 (alive_count hs) ids ≡ true → dropped ids hs ≡ Ok (without ids 0 hs)
dropped-ok ids hs passes = ap (λ b. refuse_if (not b) bad_order >>= λ _. Ok (without ids 0 hs)) passes

pub spelled : (bytes : List ℕ) (hs : List HeldTable) (ids : List ℕ) → or_refuse (row_ids bytes) invalid_data ≡ Ok ids
    → spelled_dropped bytes hs ≡ dropped ids hs
spelled bytes hs ids is = ap (λ r. r >>= λ ids. dropped ids hs) is

-- no change is of another kind
pub no-kind : (kind : ℕ) (bytes : List ℕ) (hs : List HeldTable) → kind ≢ 0 → kind ≢ 1 → kind ≢ 2
    → changed kind bytes hs ≡ Err invalid_data
no-kind kind bytes hs a b c = λ i.
    if ne_eqb kind 0 a i then appended bytes hs
    else if ne_eqb kind 1 b i then spelled_dropped bytes hs
    else if ne_eqb kind 2 c i then appended bytes []
    else Err invalid_data
