-- Words that texts are compared with, and those that name types.
use Rattle.std.proofs.Common.{◌≡◌, ℕ, Bool, true, false, List, [], ◌∷◌, None, refl, sym, bytes_eq}
use Rattle.std.specs.Prelude.{find, codes}
use Rattle.std.proofs.lemmas.Slice.Eq.{bytes_eq-Decides}
use Rattle.col_model.specs.ColumnType.{type_name}
use Rattle.col_model.specs.ColumnType as types
use Rattle.col_program.specs.Values.{type_named}

-- another word
pub other : (a b : List ℕ) → (b ≡ a → ⊥) → bytes_eq a b ≡ false
other a b h = go (bytes_eq a b) refl
  where
    go : (t : Bool) → bytes_eq a b ≡ t → bytes_eq a b ≡ false
    go true e = absurd (h (sym ((bytes_eq-Decides a b).0 e)))
    go false e = e

-- none of seven
pub none_of_seven : {A : Type 0} (p : A → Bool) (a b c d e f g : A) → p a ≡ false → p b ≡ false → p c ≡ false
    → p d ≡ false → p e ≡ false → p f ≡ false → p g ≡ false
    → find p (a ∷ b ∷ c ∷ d ∷ e ∷ f ∷ g ∷ []) ≡ None
none_of_seven p a b c d e f g ha hb hc hd he hf hg = rw (ha, hb, hc, hd, he, hf, hg) refl

-- a word that names no type
pub no_type : (word : List ℕ) → (word ≡ codes "i64" → ⊥) → (word ≡ codes "u64" → ⊥) → (word ≡ codes "bytes" → ⊥) → (word ≡ codes "str" → ⊥)
    → (word ≡ codes "bool" → ⊥) → (word ≡ codes "ip" → ⊥) → (word ≡ codes "datetime" → ⊥) → type_named word ≡ None
no_type word i u by st bo ip da =
    none_of_seven (λ t. bytes_eq (type_name t) word) types.i64 types.u64 types.bytes types.str types.bool types.ip types.datetime
    (other (codes "i64") word i) (other (codes "u64") word u) (other (codes "bytes") word by)
    (other (codes "str") word st) (other (codes "bool") word bo) (other (codes "ip") word ip)
    (other (codes "datetime") word da)
