-- Documents by the keys of their first values.
use Rattle.std.proofs.Common.{◌≡◌, ◌<◌, ◌≤◌, ℕ, zero, suc, ◌^◌, List, [], ◌∷◌, length, map, get_or, Bool, true, false, cond, Ok, Err, refl, sym, ◌∙◌, ap, arith, inr}
use Rattle.std.specs.Prelude.{nat_le, nat_lt, ◌==◌, ◌||◌, slice_get, filter, unwrap_or}
use Rattle.std.specs.List.{list_any, zip, range_with_len}
use Rattle.std.proofs.lemmas.List.FromFn.{get_or-map-range_with_len}
use Rattle.col_common.specs.declared.error.ColumnarError.TheVariants as answers
use Rattle.col_model.specs.Sorted.{sorted_items}
use Rattle.col_model.specs.Refusal.{◌>>=◌, refuse_if, doc_out_of_range}
use Rattle.col_writer_columns.specs.Answers.{Gives}
use Rattle.col_writer_columns.specs.Sorting.{first_key, docs_by_keys, docs_by_number, docs_after}
use Rattle.col_writer_columns.proofs.FirstLemmas.{length-first_keys}

-- the documents of pairs
pub past-zip : (n : ℕ) (docs keys : List ℕ) → length docs ≡ length keys
    → list_any (λ (p : ℕ × ℕ). nat_le n p.0) (zip docs keys) ≡ list_any (λ d. nat_le n d) docs
past-zip n [] keys e = refl
past-zip n (d ∷ docs) [] e = absurd (omega arith)
past-zip n (d ∷ docs) (k ∷ keys) e = ap (λ b. nat_le n d || b) (past-zip n docs keys (omega arith))

-- ---- past the last document

past_end : (xs : List ℕ) (k : ℕ) → length xs ≤ k → get_or xs k 0 ≡ 0
past_end [] zero h = refl
past_end [] (suc k) h = refl
past_end (x ∷ xs) zero h = absurd (omega arith)
past_end (x ∷ xs) (suc k) h = past_end xs k (omega arith)

no_first : (n d : ℕ) (ps : List (ℕ × ℕ)) → n ≤ d → list_any (λ (p : ℕ × ℕ). nat_le n p.0) ps ≡ false → first_key ps d ≡ 0
unfolding first_key
no_first n d [] h e = refl
no_first n d (p ∷ ps) h e = by (nat_le n p.0) refl e (no_first n d ps h)
  where
    first : List (ℕ × ℕ) → ℕ
    first qs = unwrap_or (slice_get (map (λ (p : ℕ × ℕ). p.1) qs) 0) 0

    by : (b : Bool) → nat_le n p.0 ≡ b → (b || list_any (λ (p : ℕ × ℕ). nat_le n p.0) ps) ≡ false
        → (list_any (λ (p : ℕ × ℕ). nat_le n p.0) ps ≡ false → first (filter (λ q. q.0 == d) ps) ≡ 0)
        → first (cond (p.0 == d) (p ∷ filter (λ q. q.0 == d) ps) (filter (λ q. q.0 == d) ps)) ≡ 0
    by true f e later = cc
    by false f e later =
        let low : p.0 < n = grind arith in
        let less : p.0 < d = omega (arith, h) in
        let apart : (p.0 == d) ≡ false = grind arith in
        ap (λ b. first (cond b (p ∷ filter (λ q. q.0 == d) ps) (filter (λ q. q.0 == d) ps))) apart ∙ later e

first-anywhere : (n d : ℕ) (ps : List (ℕ × ℕ)) → list_any (λ (p : ℕ × ℕ). nat_le n p.0) ps ≡ false
    → get_or (map (first_key ps) (range_with_len 0 n)) d 0 ≡ first_key ps d
first-anywhere n d ps e = by (nat_lt d n) refl
  where
    by : (b : Bool) → nat_lt d n ≡ b → get_or (map (first_key ps) (range_with_len 0 n)) d 0 ≡ first_key ps d
    by true f = let low : d < n = grind arith in get_or-map-range_with_len (first_key ps) 0 n d d 0 low (omega arith)
    by false f =
        let up : n ≤ d = grind arith in
        past_end (map (first_key ps) (range_with_len 0 n)) d (omega (arith, up, length-first_keys n ps)) ∙ sym (no_first n d ps up e)

-- the places of a list of first keys are the documents by their keys
pub numbers-keys : (reversed : Bool) (n : ℕ) (ps : List (ℕ × ℕ)) (ns : List ℕ)
    → ns ≡ map (first_key ps) (range_with_len 0 n) → list_any (λ (p : ℕ × ℕ). nat_le n p.0) ps ≡ false
    → docs_by_number reversed ns ≡ docs_by_keys reversed ps n
numbers-keys reversed n ps ns is e = ap (docs_by_number reversed) is ∙ by reversed
  where
    all : List ℕ
    all = map (first_key ps) (range_with_len 0 n)

    by : (r : Bool) → docs_by_number r (map (first_key ps) (range_with_len 0 n)) ≡ docs_by_keys r ps n
    by true =
        λ i. sorted_items (λ a b. nat_le (first-anywhere n b ps e i) (first-anywhere n a ps e i))
        (range_with_len 0 (length-first_keys n ps i))
    by false =
        λ i. sorted_items (λ a b. nat_le (first-anywhere n a ps e i) (first-anywhere n b ps e i))
        (range_with_len 0 (length-first_keys n ps i))

-- the first keys of fewer than 2 ^ 32 documents are fewer than 2 ^ 32
pub few-firsts : (n : ℕ) (ps : List (ℕ × ℕ)) (ns ms : List ℕ) → ns ≡ map (first_key ps) (range_with_len 0 n)
    → ms ≡ ns → n < 2 ^ 32 → length ms < 2 ^ 32
few-firsts n ps ns ms is same h = omega (arith, h, ap length same, ap length is, length-first_keys n ps)

-- ---- the two ways

-- documents of which one isn't below n are refused as out of range
pub order-refused : {V : Type 0} (view : V → List ℕ) (ps : List (ℕ × ℕ)) (n : ℕ) (reversed : Bool)
    → list_any (λ (p : ℕ × ℕ). nat_le n p.0) ps ≡ true
    → Gives view (Err answers.DocOutOfRange) (docs_after ps n reversed)
order-refused view ps n reversed e =
    record {
      ok = tt;
      refused = inr
          (doc_out_of_range, ap (λ b. refuse_if b doc_out_of_range >>= λ _. Ok (docs_by_keys reversed ps n)) e, refl);
    }

-- documents below n are given in the order of their keys
pub order-given : {V : Type 0} (view : V → List ℕ) (ps : List (ℕ × ℕ)) (n : ℕ) (reversed : Bool) (v : V)
    → list_any (λ (p : ℕ × ℕ). nat_le n p.0) ps ≡ false → view v ≡ docs_by_keys reversed ps n
    → Gives view (Ok v) (docs_after ps n reversed)
order-given view ps n reversed v e is =
    record {
      ok = ap (λ b. refuse_if b doc_out_of_range >>= λ _. Ok (docs_by_keys reversed ps n)) e ∙ ap Ok (sym is);
      refused = tt;
    }
