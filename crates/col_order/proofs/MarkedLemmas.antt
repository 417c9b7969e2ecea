-- Rows of a segment that are named, address by address.
use Rattle.std.proofs.Common.{◌≡◌, ◌≢◌, not, ◌||◌, eqb, eq-eqb, nat_lt, refl, subst, ◌+◌, ◌<◌, ◌∷◌, ◌++◌, ◌⊎◌, inl, inr, [], ℕ, List, Bool, true, ap, sym, ◌∙◌, arith, length, get_or, set, take, map}
use Rattle.std.specs.List.{list_all}
use Rattle.std.proofs.lemmas.List.{length-map, get_or-map, get_or_default, take_more}
use Rattle.std.proofs.lemmas.Bool.{and_from, and_parts, cases_eq, lt-ltb, ltb-true, ne_eqb}
use Rattle.std.proofs.lemmas.Grind.{common_steps}
use Rattle.std.proofs.lemmas.List.Elements.{All-get_or}
use Rattle.std.proofs.lemmas.List.Sums.{AllPass-from_list_all}
use Rattle.std.proofs.lemmas.List.Folds.{list_all-map}
use Rattle.std.proofs.lemmas.Option.{slice_get_cases, gets}
use Rattle.col_common.specs.declared.row.RowAddr.{RowAddr}
use Rattle.col_model.specs.Order.{has_row}
use Rattle.col_order.specs.Orders.{IsShuffle, Shuffle, AreWithin, named_rows, address_of}
use Rattle.col_order.proofs.NamedLemmas.{named-more, named-apart}

-- what the test says of a row
has_row-within : (counts : List ℕ) (s row : ℕ) → has_row counts (s, row) ≡ true → (s < length counts) × (row < get_or counts s 0)
has_row-within counts s row h = grind (arith, common_steps, gets, slice_get_cases counts s)

-- the row that an address names is there
pub row_there : (counts : List ℕ) (addrs : List RowAddr) (i : ℕ) (d : RowAddr)
    → list_all (has_row counts) (map address_of addrs) ≡ true → i < length addrs
    → ((get_or addrs i d).segment_ord < length counts)
    × ((get_or addrs i d).row_id < get_or counts (get_or addrs i d).segment_ord 0)
row_there counts addrs i d h within = has_row-within counts (get_or addrs i d).segment_ord (get_or addrs i d).row_id
    (All-get_or (λ a. has_row counts (address_of a) ≡ true) addrs i d within (AllPass-from_list_all
    (λ a. has_row counts (address_of a)) addrs (sym (list_all-map (has_row counts) address_of addrs) ∙ h)))

-- the row of an address in a segment is below a count
abbrev is_within : ℕ → ℕ → ℕ × ℕ → Bool
is_within segment n a = not (eqb a.0 segment) || nat_lt a.1 n

row-within : (segment n : ℕ) (a : ℕ × ℕ) → a.0 ≡ segment → is_within segment n a ≡ true → a.1 < n
row-within segment n a here h = ltb-true a.1 n (ap (λ b. not b || nat_lt a.1 n) (sym (eq-eqb a.0 segment here)) ∙ h)

there-within : (counts : List ℕ) (segment : ℕ) (a : ℕ × ℕ) → has_row counts a ≡ true → is_within segment (get_or counts segment 0) a ≡ true
there-within counts segment a h = by (cases_eq a.0 segment)
  where
    by : (a.0 ≡ segment) ⊎ (a.0 ≢ segment) → is_within segment (get_or counts segment 0) a ≡ true
    by (inl same) =
        ap (λ b. not b || nat_lt a.1 (get_or counts segment 0)) (eq-eqb a.0 segment same)
        ∙ lt-ltb a.1 (get_or counts segment 0) (subst (λ s. a.1 < get_or counts s 0) same (has_row-within counts a.0 a.1 h).1)
    by (inr other) = ap (λ b. not b || nat_lt a.1 (get_or counts segment 0)) (ne_eqb a.0 segment other)

-- one address more of the list
next_address : (addrs : List RowAddr) (i : ℕ) (d : RowAddr) → i < length addrs
    → take (i + 1) (map address_of addrs) ≡ take i (map address_of addrs) ++ (address_of (get_or addrs i d) ∷ [])
next_address addrs i d within =
    take_more (map address_of addrs) i (address_of d) (omega (arith, length-map addrs address_of))
    ∙ ap (λ a. take i (map address_of addrs) ++ (a ∷ [])) (get_or-map address_of addrs i d (address_of d) within)

module _ (segment n : ℕ) (addrs : List RowAddr) (i : ℕ) (d : RowAddr) (within : i < length addrs) where
  abbrev so-far : List (ℕ × ℕ)
  so-far = take i (map address_of addrs)

  -- the row of an address in the segment is below its count
  pub alive-row : AreWithin segment n (map address_of addrs) → (get_or addrs i d).segment_ord ≡ segment
      → (get_or addrs i d).row_id < n
  alive-row all here = row-within segment n (address_of (get_or addrs i d)) here
      (All-get_or (λ a. is_within segment n (address_of a) ≡ true) addrs i d within (AllPass-from_list_all
      (λ a. is_within segment n (address_of a)) addrs (sym (list_all-map (is_within segment n) address_of addrs) ∙ all)))

  -- its flag is set
  pub alive-more : (old new : List Bool) → old ≡ named_rows so-far segment n → (get_or addrs i d).segment_ord ≡ segment
      → (get_or addrs i d).row_id < n → new ≡ set old (get_or addrs i d).row_id true
      → new ≡ named_rows (take (i + 1) (map address_of addrs)) segment n
  alive-more old new h here inside put =
      put ∙ ap (λ f. set f (get_or addrs i d).row_id true) h
      ∙ sym (named-more so-far segment n (get_or addrs i d).row_id inside)
      ∙ ap (λ s. named_rows (so-far ++ ((s, (get_or addrs i d).row_id) ∷ [])) segment n) (sym here)
      ∙ ap (λ xs. named_rows xs segment n) (sym (next_address addrs i d within))

  -- an address in another segment sets none
  pub alive-other : (old : List Bool) → old ≡ named_rows so-far segment n → (get_or addrs i d).segment_ord ≢ segment
      → old ≡ named_rows (take (i + 1) (map address_of addrs)) segment n
  alive-other old h other =
      h ∙ sym (named-apart so-far segment n (get_or addrs i d).segment_ord (get_or addrs i d).row_id (λ e. other (sym e)))
      ∙ ap (λ xs. named_rows xs segment n) (sym (next_address addrs i d within))

-- rows that are there are within their segment
pub all-within : (counts : List ℕ) (segment : ℕ) (addresses : List (ℕ × ℕ)) → list_all (has_row counts) addresses ≡ true
    → AreWithin segment (get_or counts segment 0) addresses
all-within counts segment [] h = refl
all-within counts segment (a ∷ rest) h =
    let p = and_parts (has_row counts a) (list_all (has_row counts) rest) h in
    and_from _ _ (there-within counts segment a p.0) (all-within counts segment rest p.1)

-- the same of an order
pub order-within : (v w : Shuffle) (segment n : ℕ) (xs : List (ℕ × ℕ)) → v ≡ w → IsShuffle v → segment < length w.counts
    → n ≡ get_or v.counts segment n → xs ≡ v.addresses → AreWithin segment n xs
order-within v w segment n xs e h within read same =
    let there : segment < length v.counts = subst (λ (s : Shuffle). segment < length s.counts) (sym e) within in
    subst (λ k. AreWithin segment k xs) (get_or_default v.counts segment 0 n there ∙ sym read)
    (all-within v.counts segment xs (ap (list_all (has_row v.counts)) same ∙ h.named))
