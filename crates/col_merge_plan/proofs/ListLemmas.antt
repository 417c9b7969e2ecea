-- One more item of a list.
use Rattle.std.proofs.Common.{◌≡◌, ℕ, zero, suc, ◌+◌, ◌<◌, List, [], ◌∷◌, ◌++◌, length, map, take, drop, get_or, refl, sym, ap, ◌∙◌, arith, add-one, append_assoc, append-nil}
use Rattle.col_model.specs.Category.{Slot}
use Rattle.col_model.specs.Keys.{Entry}
use Rattle.col_model.specs.U64List.{joined_lists}
use Rattle.col_file.specs.Handles.{listed}
use Rattle.col_file.specs.Readers.{SeenReader}
use Rattle.col_merge_plan.specs.Slots.{entry_slot, file_slots, keys_read, listed_slot}

-- the items up to the next place are those before it and the one there
pub taken : {A : Type 0} (xs : List A) (i j : ℕ) (x : A) → j ≡ suc i → i < length xs → x ≡ get_or xs i x → take j xs ≡ take i xs ++ x ∷ []
taken [] i j x n h e = absurd (omega arith)
taken (y ∷ xs) zero j x n h e = rw n (ap (λ z. z ∷ []) (sym e))
taken (y ∷ xs) (suc i) j x n h e = rw n (ap (λ ys. y ∷ ys) (taken xs i (suc i) x refl (omega (arith, h)) e))

-- the items from a place on are the one there and those behind it
pub dropped : {A : Type 0} (xs : List A) (i j : ℕ) (x : A) → j ≡ suc i → i < length xs → x ≡ get_or xs i x → drop i xs ≡ x ∷ drop j xs
dropped [] i j x n h e = absurd (omega arith)
dropped (y ∷ xs) zero j x n h e = rw n (ap (λ z. z ∷ xs) (sym e))
dropped (y ∷ xs) (suc i) j x n h e = rw n (dropped xs i (suc i) x refl (omega (arith, h)) e)

-- the slots of a file, as its columns are listed
pub listed-slots : (es : List Entry) → map listed_slot (map listed es) ≡ map entry_slot es
listed-slots [] = refl
listed-slots (e ∷ es) = ap (λ ss. entry_slot e ∷ ss) (listed-slots es)

files-push : (rs : List SeenReader) (r : SeenReader)
    → joined_lists (map file_slots (keys_read (rs ++ r ∷ [])))
    ≡ joined_lists (map file_slots (keys_read rs)) ++ file_slots r.keys
files-push [] r = append-nil (file_slots r.keys)
files-push (x ∷ rs) r =
    ap (λ ss. file_slots x.keys ++ ss) (files-push rs r)
    ∙ sym (append_assoc (file_slots x.keys) (joined_lists (map file_slots (keys_read rs))) (file_slots r.keys))

-- the slots of one more file
pub files-more : (start now next : List Slot) (rs : List SeenReader) (i : ℕ) (r : SeenReader) → i < length rs
    → r ≡ get_or rs i r → now ≡ start ++ joined_lists (map file_slots (keys_read (take i rs)))
    → next ≡ now ++ file_slots r.keys → next ≡ start ++ joined_lists (map file_slots (keys_read (take (i + 1) rs)))
files-more start now next rs i r within is was more =
    more
    ∙ ap (λ ss. ss ++ file_slots r.keys) was
    ∙ append_assoc start (joined_lists (map file_slots (keys_read (take i rs)))) (file_slots r.keys)
    ∙ ap (λ ss. start ++ ss) (sym (files-push (take i rs) r))
    ∙ ap (λ rs. start ++ joined_lists (map file_slots (keys_read rs))) (sym (taken rs i (i + 1) r (add-one i) within is))
