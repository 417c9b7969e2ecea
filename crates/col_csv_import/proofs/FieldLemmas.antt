-- The field at a place of a record.
use Rattle.std.proofs.Common.{◌≡◌, ℕ, zero, suc, List, [], ◌∷◌, get_or, Some, None, refl, sym}
use Rattle.csv.specs.Records.{field_at}
use Rattle.csv.proofs.RecordFacts.{field-get}

-- a field that is there
pub field-some : (fields : List (List ℕ)) (i : ℕ) (x : List ℕ) → Some x ≡ field_at fields i → x ≡ get_or fields i []
field-some fields i x e = sym (field-get fields i x (sym e))

-- a field that isn't there is read as an empty one
pub field-missing : (fields : List (List ℕ)) (i : ℕ) → None ≡ field_at fields i → [] ≡ get_or fields i []
unfolding field_at
field-missing [] i e = refl
field-missing (f ∷ fs) zero e = absurd (cc e)
field-missing (f ∷ fs) (suc i) e = field-missing fs i e
