-- The names of entries whose keys ascend.
use Rattle.std.proofs.Common.{◌≡◌, ℕ, zero, suc, ◌<◌, ◌≤◌, true, List, [], ◌∷◌, length, get_or, take, map, bytes_eq, nat_eq, string_bytes, refl, sym, ◌∙◌, subst, inl, inr, ◌⊎◌, add-one, arith}
use Rattle.std.specs.declared.cmp.Ordering.{Ordering}
use Rattle.std.specs.declared.cmp.Ordering.TheVariants.{Less, Equal, Greater}
use Rattle.std.specs.List.{starts_with}
use Rattle.std.specs.Ordering.{nat_cmp, is_eq, ordering_index, ordering_then}
use Rattle.std.specs.Cmp.Lexicographic.{slice_cmp}
use Rattle.std.specs.List.Sorted.{IsNonDecreasingBy}
use Rattle.std.proofs.lemmas.Bool.{and_parts}
use Rattle.std.proofs.lemmas.Cmp.{nat_list_cmp_total, tied_itself}
use Rattle.std.proofs.lemmas.Slice.Eq.{bytes_eq-Decides}
use Rattle.std.proofs.lemmas.Bool.Decides.{same_from_decides, Decides-like}
use Rattle.std.proofs.lemmas.Map.Lookups.{exact_bytes}
use Rattle.std.proofs.lemmas.Map.Text.{is_eq-slice_cmp}
use Rattle.std.proofs.lemmas.List.Sorted.{IsNonDecreasingBy-from_all_adjacent}
use Rattle.col_keys.specs.KeyTables.{key_seen}
use Rattle.col_common.specs.Ascending.{is_before, is_ascending}
use Rattle.col_model.specs.ColumnType.{type_code}
use Rattle.col_model.specs.Keys.{key_bytes, are_keys}
use Rattle.col_model.proofs.KeyLaws.{slice_cmp-keys}
use Rattle.col_model.proofs.OrderingLaws.{less_where}
use Rattle.col_types.specs.Kinds.{kind_of}
use Rattle.col_common.proofs.OctetLemmas.{bytes_eq-swap}
use Rattle.col_file.specs.Entries.{entry_of, entries_seen}
use Rattle.col_file.specs.declared.column_entry.ColumnEntry.{ColumnEntry}

-- ---- the order of two names

-- the name of an entry
abbrev pub name_of : ColumnEntry → List ℕ
name_of e = string_bytes e.key.name

-- the first stands before the second, or is the same to the order
abbrev pub IsUpTo : List ℕ → List ℕ → Type 0
IsUpTo a b = (slice_cmp nat_cmp a b ≡ Less) ⊎ (slice_cmp nat_cmp a b ≡ Equal)

first-less : (o p : Ordering) → ordering_then o p ≡ Less → (o ≡ Less) ⊎ (o ≡ Equal)
first-less Less p e = inl refl
first-less Equal p e = inr refl
first-less Greater p e = cc

keys-up_to : (a b : ColumnEntry) → is_before (key_bytes (key_seen a.key)) (key_bytes (key_seen b.key)) ≡ true
    → IsUpTo (name_of a) (name_of b)
keys-up_to a b e =
    let p = and_parts _ _ a.key.named in
    let q = and_parts _ _ b.key.named in
    first-less (slice_cmp nat_cmp (name_of a) (name_of b))
    (nat_cmp (type_code (kind_of a.key.column_type)) (type_code (kind_of b.key.column_type)))
    (sym (slice_cmp-keys (name_of a) (name_of b) (type_code (kind_of a.key.column_type))
    (type_code (kind_of b.key.column_type)) p.1 q.1) ∙ less_where _ e)

adjacent : (es : List ColumnEntry) (k : ℕ) (d : ColumnEntry) → suc k < length es
    → is_ascending (map key_bytes (map (λ e. e.key) (entries_seen es))) ≡ true
    → IsUpTo (name_of (get_or es k d)) (name_of (get_or es (suc k) d))
adjacent [] k d h e = absurd (omega arith)
adjacent (x ∷ []) k d h e = absurd (omega arith)
adjacent (x ∷ y ∷ es) zero d h e = keys-up_to x y (and_parts (is_before (key_bytes (key_seen x.key)) (key_bytes (key_seen y.key))) _ e).0
adjacent (x ∷ y ∷ es) (suc k) d h e =
    adjacent (y ∷ es) k d (omega arith)
    (and_parts (is_before (key_bytes (key_seen x.key)) (key_bytes (key_seen y.key))) _ e).1

-- ---- how they compare with another

index-bound : (o : Ordering) → ordering_index o ≤ 2
index-bound Less = omega arith
index-bound Equal = omega arith
index-bound Greater = omega arith

less-rises : (o : Ordering) (a b c : List ℕ) → slice_cmp nat_cmp a b ≡ Less → slice_cmp nat_cmp b c ≡ o
    → ordering_index (slice_cmp nat_cmp a c) ≤ ordering_index o
less-rises Less a b c e f = rw (nat_list_cmp_total.trans a b c e f) (omega arith)
less-rises Equal a b c e f =
    let same : slice_cmp nat_cmp a c ≡ Less = subst (λ t. slice_cmp nat_cmp a t ≡ Less) (exact_bytes b c f) e in
    rw same (omega arith)
less-rises Greater a b c e f = index-bound (slice_cmp nat_cmp a c)

-- a name compares no higher than one behind it
rises : (a b c : List ℕ) → IsUpTo a b → ordering_index (slice_cmp nat_cmp a c) ≤ ordering_index (slice_cmp nat_cmp b c)
rises a b c (inl less) = less-rises (slice_cmp nat_cmp b c) a b c less refl
rises a b c (inr same) =
    let e = exact_bytes a b same in subst
    (λ t. ordering_index (slice_cmp nat_cmp a c) ≤ ordering_index (slice_cmp nat_cmp t c)) e (omega arith)

-- where the keys ascend, names go from those before a name over those equal to it to those behind
pub names-rise : (es : List ColumnEntry) → are_keys (map (λ e. e.key) (entries_seen es)) ≡ true → (name : List ℕ)
    → IsNonDecreasingBy (λ e. ordering_index (slice_cmp nat_cmp (name_of e) name)) es
names-rise es keys name = IsNonDecreasingBy-from_all_adjacent (λ e. ordering_index (slice_cmp nat_cmp (name_of e) name)) es (λ k d h.
    let h2 : suc k < length es = omega arith in
    rw add-one (rises (name_of (get_or es k d)) (name_of (get_or es (suc k) d)) name (adjacent es k d h2 (and_parts _ _ keys).0)))

-- ---- the fronts of names

front-then : (o p q : Ordering) → ordering_then o p ≡ Less → (p ≡ Less → (q ≡ Less) ⊎ (q ≡ Equal))
    → (ordering_then o q ≡ Less) ⊎ (ordering_then o q ≡ Equal)
front-then Less p q e f = inl refl
front-then Equal p q e f = f e
front-then Greater p q e f = cc

fronts-less : (n : ℕ) (a b : List ℕ) → slice_cmp nat_cmp a b ≡ Less → IsUpTo (take n a) (take n b)
fronts-less zero a b e = inr refl
fronts-less (suc n) [] [] e = cc
fronts-less (suc n) [] (y ∷ b) e = inl refl
fronts-less (suc n) (x ∷ a) [] e = cc
fronts-less (suc n) (x ∷ a) (y ∷ b) e =
    front-then (nat_cmp x y) (slice_cmp nat_cmp a b) (slice_cmp nat_cmp (take n a) (take n b)) e (fronts-less n a b)

fronts-up_to : (n : ℕ) (a b : List ℕ) → IsUpTo a b → IsUpTo (take n a) (take n b)
fronts-up_to n a b (inl less) = fronts-less n a b less
fronts-up_to n a b (inr same) =
    inr (subst (λ t. slice_cmp nat_cmp (take n a) (take n t) ≡ Equal) (exact_bytes a b same) (tied_itself nat_list_cmp_total (take n a)))

-- where the keys ascend, fronts of names go from those before a front over equal ones to those
-- behind
pub fronts-rise : (es : List ColumnEntry) → are_keys (map (λ e. e.key) (entries_seen es)) ≡ true → (front : List ℕ)
    → IsNonDecreasingBy (λ e. ordering_index (slice_cmp nat_cmp (take (length front) (name_of e)) front)) es
fronts-rise es keys front = IsNonDecreasingBy-from_all_adjacent
    (λ e. ordering_index (slice_cmp nat_cmp (take (length front) (name_of e)) front)) es (λ k d h.
    let h2 : suc k < length es = omega arith in
    rw add-one (rises (take (length front) (name_of (get_or es k d)))
    (take (length front) (name_of (get_or es (suc k) d))) front
    (fronts-up_to (length front) (name_of (get_or es k d)) (name_of (get_or es (suc k) d))
    (adjacent es k d h2 (and_parts _ _ keys).0))))

-- ---- tests of names as ranks

-- an entry has a name where its own compares as equal
pub name-is : (name : List ℕ) (e : ColumnEntry) → bytes_eq (entry_of e).key.name name ≡ is_eq (slice_cmp nat_cmp (name_of e) name)
name-is name e = sym (is_eq-slice_cmp (name_of e) name)

-- an entry's name begins with a front where its own front compares as equal
pub front-is : (front : List ℕ) (e : ColumnEntry)
    → starts_with nat_eq (entry_of e).key.name front
    ≡ is_eq (slice_cmp nat_cmp (take (length front) (name_of e)) front)
front-is front e =
    let name = take (length front) (name_of e) in
    bytes_eq-swap front name ∙ sym (is_eq-slice_cmp name front)
