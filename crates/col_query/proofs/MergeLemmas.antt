-- Merges of rising lists.
use Rattle.std.proofs.Common.{◌≡◌, ℕ, ◌+◌, ◌-◌, ◌<◌, ◌≤◌, Bool, true, false, cond, not, eqb, eq-eqb, List, [], ◌∷◌, ◌++◌, get_or, drop, min, sym, ap, ◌∙◌, arith, inl, inr, ◌⊎◌, append_assoc}
use Rattle.std.proofs.lemmas.Bool.{cases_eq, cases_lt, ne_eqb}
use Rattle.std.proofs.lemmas.List.{get_or-drop, drop-drop, append-nil}
use Rattle.col_query.specs.Sets.{docs_where, is_kept}
use Rattle.col_query.specs.declared.lists.Kept.{Kept}
use Rattle.col_query.proofs.PassLemmas.{rest_of, rest_more, rest_skip, IsFront, front_of}
use Rattle.col_values.proofs.HitLemmas.{rows_none}

-- One list at a document that isn't above its first: whether it has it, and what is left behind it.
pub record IsSide (test : ℕ → Bool) (n m low limit : ℕ) (xs : List ℕ) : Type 0 where
  pub before : (d : ℕ) → m ≤ d → d < low → test d ≡ false
  pub has : test low ≡ eqb (get_or xs 0 limit) low
  pub next : drop (cond (eqb (get_or xs 0 limit) low) 1 0) xs ≡ rest_of test n (low + 1)

-- the side of a list that is walked
pub side_of : (test : ℕ → Bool) (n m low limit : ℕ) (xs : List ℕ) → n ≤ limit → xs ≡ rest_of test n m → m ≤ low → low < n
    → IsFront test n m limit xs → low ≤ get_or xs 0 limit → IsSide test n m low limit xs
side_of test n m low limit xs fits e above below f least = by (cases_eq (get_or xs 0 limit) low)
  where
    by : (get_or xs 0 limit ≡ low) ⊎ (get_or xs 0 limit ≡ low → ⊥) → IsSide test n m low limit xs
    by (inl same) =
        let some : get_or xs 0 limit < limit = omega arith in
        record {
          before = λ d p q. f.before d p (omega arith) (omega arith);
          has = ap test (sym same) ∙ (f.here some ∙ sym (eq-eqb (get_or xs 0 limit) low same));
          next = ap (λ b. drop (cond b 1 0) xs) (eq-eqb (get_or xs 0 limit) low same)
              ∙ (f.next some ∙ ap (λ y. rest_of test n (y + 1)) same);
        }
    by (inr other) =
        record {
          before = λ d p q. f.before d p (omega arith) (omega arith);
          has = f.before low above (omega arith) below ∙ sym (ne_eqb (get_or xs 0 limit) low other);
          next = ap (λ b. drop (cond b 1 0) xs) (ne_eqb (get_or xs 0 limit) low other)
              ∙ (e ∙ rest_skip test n m (low + 1 - m) (low + 1) (omega arith) (omega arith)
              (λ d p q. f.before d p (omega arith) (omega arith)));
        }

-- a document behind others, where it is kept
kept_more : (docs rest : List ℕ) (low : ℕ) (keep : Bool) → docs ++ cond keep (low ∷ rest) rest ≡ (docs ++ cond keep (low ∷ []) []) ++ rest
kept_more docs rest low true = sym (append_assoc docs (low ∷ []) rest)
kept_more docs rest low false = ap (λ xs. xs ++ rest) (sym (append-nil docs))

-- Of two lists, those from some document on are left, and what was kept is made.
pub record IsMerging (kept : Kept) (p q : ℕ → Bool) (n : ℕ) (left right made : List ℕ) (i j : ℕ) : Type 0 where
  pub m : ℕ
  pub within : m ≤ n
  pub on_left : drop i left ≡ rest_of p n m
  pub on_right : drop j right ≡ rest_of q n m
  pub all : made ++ rest_of (λ d. is_kept kept (p d) (q d)) n m ≡ docs_where (λ d. is_kept kept (p d) (q d)) n

-- the first number of what is left
first_left : (xs : List ℕ) (i limit : ℕ) → get_or xs i limit ≡ get_or (drop i xs) 0 limit
first_left xs i limit = let same : i ≡ i + 0 = omega arith in ap (λ k. get_or xs k limit) same ∙ sym (get_or-drop i xs 0 limit)

-- what is left behind it, where it was passed
left_after : (xs : List ℕ) (i k : ℕ) → drop (i + k) xs ≡ drop k (drop i xs)
left_after xs i k = sym (drop-drop k i xs)

step_at : (kept : Kept) (p q : ℕ → Bool) (n m limit low : ℕ) (xs ys docs : List ℕ) → m ≤ low → low < n
    → IsSide p n m low limit xs → IsSide q n m low limit ys
    → docs ++ rest_of (λ d. is_kept kept (p d) (q d)) n m
    ≡ (docs ++ cond (is_kept kept (eqb (get_or xs 0 limit) low) (eqb (get_or ys 0 limit) low)) (low ∷ []) [])
    ++ rest_of (λ d. is_kept kept (p d) (q d)) n (low + 1)
step_at kept p q n m limit low xs ys docs above below a b =
    let r : ℕ → Bool = λ d. is_kept kept (p d) (q d) in
    let rest : List ℕ = rest_of r n (low + 1) in
    let skipped : rest_of r n m ≡ rest_of r n low = rest_skip r n m (low - m) low (omega arith) (omega arith)
    (λ d s t. ap (λ v. is_kept kept v (q d)) (a.before d s t) ∙ ap (λ v. is_kept kept false v) (b.before d s t)) in
    let here : r low ≡ is_kept kept (eqb (get_or xs 0 limit) low) (eqb (get_or ys 0 limit) low) =
    ap (λ v. is_kept kept v (q low)) a.has ∙ ap (λ v. is_kept kept (eqb (get_or xs 0 limit) low) v) b.has in
    ap (λ zs. docs ++ zs) (skipped ∙ (rest_more r n low below ∙ ap (λ v. cond v (low ∷ rest) rest) here))
    ∙ kept_more docs rest low (is_kept kept (eqb (get_or xs 0 limit) low) (eqb (get_or ys 0 limit) low))

-- the lowest document that is left, and where it stands
pub merge_more : (kept : Kept) (p q : ℕ → Bool) (n limit : ℕ) (left right docs : List ℕ) (i j x y low : ℕ) → n ≤ limit
    → IsMerging kept p q n left right docs i j → x ≡ get_or left i limit → y ≡ get_or right j limit → low ≡ min x y → low < limit
    → IsMerging kept p q n left right (docs ++ cond (is_kept kept (eqb x low) (eqb y low)) (low ∷ []) [])
    (i + cond (eqb x low) 1 0) (j + cond (eqb y low) 1 0)
merge_more kept p q n limit left right docs i j x y low fits s ex ey least some =
    let xs : List ℕ = drop i left in
    let ys : List ℕ = drop j right in
    let fx : IsFront p n s.m limit xs = front_of p n s.m limit xs s.within fits s.on_left in
    let fy : IsFront q n s.m limit ys = front_of q n s.m limit ys s.within fits s.on_right in
    let ax : x ≡ get_or xs 0 limit = ex ∙ first_left left i limit in
    let ay : y ≡ get_or ys 0 limit = ey ∙ first_left right j limit in
    let above : s.m ≤ low = omega (arith, fx.above, fy.above) in
    let below : low < n = by fx fy ax ay (cases_lt x y) in
    let a : IsSide p n s.m low limit xs = side_of p n s.m low limit xs fits s.on_left above below fx (omega arith) in
    let b : IsSide q n s.m low limit ys = side_of q n s.m low limit ys fits s.on_right above below fy (omega arith) in
    let tx : eqb x low ≡ eqb (get_or xs 0 limit) low = ap (λ v. eqb v low) ax in
    let ty : eqb y low ≡ eqb (get_or ys 0 limit) low = ap (λ v. eqb v low) ay in
    let r : ℕ → Bool = λ d. is_kept kept (p d) (q d) in
    record {
      m = low + 1;
      within = omega arith;
      on_left = ap (λ v. drop (i + cond v 1 0) left) tx ∙ (left_after left i _ ∙ a.next);
      on_right = ap (λ v. drop (j + cond v 1 0) right) ty ∙ (left_after right j _ ∙ b.next);
      all = ap (λ v. (docs ++ cond (is_kept kept v (eqb y low)) (low ∷ []) []) ++ rest_of r n (low + 1)) tx
          ∙ (ap (λ v. (docs ++ cond (is_kept kept (eqb (get_or xs 0 limit) low) v) (low ∷ []) []) ++ rest_of r n (low + 1)) ty
          ∙ (sym (step_at kept p q n s.m limit low xs ys docs above below a b) ∙ s.all));
    }
  where
    by : IsFront p n s.m limit (drop i left) → IsFront q n s.m limit (drop j right) → x ≡ get_or (drop i left) 0 limit
        → y ≡ get_or (drop j right) 0 limit → (x < y) ⊎ (y ≤ x) → low < n
    by fx fy ax ay (inl h) = omega (arith, fx.within (omega arith))
    by fx fy ax ay (inr h) = omega (arith, fy.within (omega arith))

-- nothing is left of either list
pub merge_ends : (kept : Kept) (p q : ℕ → Bool) (n limit : ℕ) (left right docs : List ℕ) (i j : ℕ) → n ≤ limit
    → IsMerging kept p q n left right docs i j → limit ≤ get_or left i limit → limit ≤ get_or right j limit
    → docs ≡ docs_where (λ d. is_kept kept (p d) (q d)) n
merge_ends kept p q n limit left right docs i j fits s ex ey =
    let xs : List ℕ = drop i left in
    let ys : List ℕ = drop j right in
    let fx : IsFront p n s.m limit xs = front_of p n s.m limit xs s.within fits s.on_left in
    let fy : IsFront q n s.m limit ys = front_of q n s.m limit ys s.within fits s.on_right in
    let ax : get_or left i limit ≡ get_or xs 0 limit = first_left left i limit in
    let ay : get_or right j limit ≡ get_or ys 0 limit = first_left right j limit in
    let r : ℕ → Bool = λ d. is_kept kept (p d) (q d) in
    let none : rest_of r n s.m ≡ [] = rows_none r s.m (n - s.m) (λ d u v.
    ap (λ w. is_kept kept w (q d)) (fx.before d u (omega arith) (omega arith))
    ∙ ap (λ w. is_kept kept false w) (fy.before d u (omega arith) (omega arith))) in
    sym (append-nil docs) ∙ (ap (λ zs. docs ++ zs) (sym none) ∙ s.all)

-- a place stays within the list
pub place_within : (i x low limit len : ℕ) → i ≤ len → (x < limit → i < len) → low < limit → i + cond (eqb x low) 1 0 ≤ len
place_within i x low limit len h some below = by (cases_eq x low)
  where
    by : (x ≡ low) ⊎ (x ≡ low → ⊥) → i + cond (eqb x low) 1 0 ≤ len
    by (inl same) = let one : ◌≡◌ {A = ℕ} (cond (eqb x low) 1 0) 1 = ap (λ b. cond b 1 0) (eq-eqb x low same) in
        omega (arith, one, some (omega arith))
    by (inr other) = let none : ◌≡◌ {A = ℕ} (cond (eqb x low) 1 0) 0 = ap (λ b. cond b 1 0) (ne_eqb x low other) in omega (arith, none)

-- Of a list, those from a document on are left, and those before it that it leaves out are made.
pub record IsLeaving (p : ℕ → Bool) (n m place : ℕ) (docs made : List ℕ) : Type 0 where
  pub on_docs : drop place docs ≡ rest_of p n m
  pub all : made ++ rest_of (λ d. not (p d)) n m ≡ docs_where (λ d. not (p d)) n

-- one document more, which the list has or leaves out
pub leaving_more : (p : ℕ → Bool) (n limit m place x : ℕ) (docs made : List ℕ) → n ≤ limit → m < n → IsLeaving p n m place docs made
    → x ≡ get_or docs place limit
    → IsLeaving p n (m + 1) (place + cond (eqb x m) 1 0) docs (made ++ cond (not (eqb x m)) (m ∷ []) [])
leaving_more p n limit m place x docs made fits below s ex =
    let xs : List ℕ = drop place docs in
    let f : IsFront p n m limit xs = front_of p n m limit xs (omega arith) fits s.on_docs in
    let ax : x ≡ get_or xs 0 limit = ex ∙ first_left docs place limit in
    let a : IsSide p n m m limit xs = side_of p n m m limit xs fits s.on_docs (omega arith) below f (omega (arith, f.above)) in
    let tx : eqb x m ≡ eqb (get_or xs 0 limit) m = ap (λ v. eqb v m) ax in
    let r : ℕ → Bool = λ d. not (p d) in
    let rest : List ℕ = rest_of r n (m + 1) in
    let here : r m ≡ not (eqb x m) = ap not (a.has ∙ sym tx) in
    record {
      on_docs = ap (λ v. drop (place + cond v 1 0) docs) tx ∙ (left_after docs place _ ∙ a.next);
      all = sym (kept_more made rest m (not (eqb x m)))
          ∙ (ap (λ v. made ++ cond v (m ∷ rest) rest) (sym here)
          ∙ (ap (λ zs. made ++ zs) (sym (rest_more r n m below)) ∙ s.all));
    }

-- the same by other names
pub merge_named : (kept : Kept) (p q : ℕ → Bool) (n : ℕ) (left right a b : List ℕ) (i j k m : ℕ) → IsMerging kept p q n left right a i j
    → b ≡ a → k ≡ i → m ≡ j → IsMerging kept p q n left right b k m
merge_named kept p q n left right a b i j k m s eb ek em = record {
  m = s.m;
  within = s.within;
  on_left = ap (λ v. drop v left) ek ∙ s.on_left;
  on_right = ap (λ v. drop v right) em ∙ s.on_right;
  all = ap (λ v. v ++ rest_of (λ d. is_kept kept (p d) (q d)) n s.m) eb ∙ s.all;
}

-- the same by other names
pub leaving_named : (p : ℕ → Bool) (n m i k : ℕ) (docs a b : List ℕ) → IsLeaving p n m i docs a → b ≡ a → k ≡ i → IsLeaving p n m k docs b
leaving_named p n m i k docs a b s eb ek = record {
  on_docs = ap (λ v. drop v docs) ek ∙ s.on_docs;
  all = ap (λ v. v ++ rest_of (λ d. not (p d)) n m) eb ∙ s.all;
}

-- a flag counts at most one
pub flag_counts : (b : Bool) → ◌≤◌ (cond b 1 0) 1
flag_counts true = omega arith
flag_counts false = omega arith
