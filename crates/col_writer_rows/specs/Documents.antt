-- Documents of recorded values, in order of recording.
use Rattle.std.specs.Prelude.{◌≡◌, ℕ, ◌+◌, ◌&&◌, nat_lt, nat_le, Bool, true, false, List, [], ◌∷◌, ◌++◌, map, unwrap_or, option_map, None}
use Rattle.std.specs.List.{last_or, range_with_len}

-- the documents 0 to n - 1, and others
unfoldable pub dense_then : ℕ → List ℕ → List ℕ
dense_then n others = range_with_len 0 n ++ others

-- the last document is behind d
unfoldable pub is_late_doc : List ℕ → ℕ → Bool
is_late_doc docs d = unwrap_or (option_map (λ last. nat_lt d last) (last_or None docs)) false

-- the documents of values
abbrev pub docs_of : {X : Type 0} → List (ℕ × X) → List ℕ
docs_of ps = map (λ p. p.0) ps

-- the second list is the first without its last item
unfoldable pub IsCut : {X : Type 0} → List X → List X → Type 0
IsCut {X} old new = (xs : List X) (x : X) → old ≡ xs ++ x ∷ [] → new ≡ xs

-- no document is below `least`, and each is above the one before it
unfoldable pub all_from : ℕ → List ℕ → Bool
all_from least [] = true
all_from least (d ∷ docs) = nat_le least d && all_from (d + 1) docs
