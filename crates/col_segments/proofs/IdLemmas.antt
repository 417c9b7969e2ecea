-- Row ids as bytes.
use Rattle.std.proofs.Common.{◌≡◌, ℕ, zero, suc, ◌<◌, ◌≤◌, ◌^◌, ◌==◌, false, List, [], ◌∷◌, ◌++◌, length, drop, get_or, Option, Some, None, refl, sym, ap, ◌∙◌, arith, append_assoc}
use Rattle.std.specs.Int.{w32, to_le_bytes, from_le_bytes}
use Rattle.std.proofs.lemmas.Nat.{from_le_bytes-to_le_bytes_4}
use Rattle.std.proofs.lemmas.List.{append-nil}
use Rattle.col_common.specs.Reading.{◌>>=◌}
use Rattle.col_segments.specs.RowIds.{row_ids}

-- ids, and those behind them
abbrev pub with_ids : List ℕ → Option (List ℕ) → Option (List ℕ)
with_ids ids o = o >>= λ more. Some (ids ++ more)

-- the bytes spell the ids, whatever follows
abbrev pub Spells : List ℕ → List ℕ → Type 0
Spells bytes ids = (tail : List ℕ) → row_ids (bytes ++ tail) ≡ with_ids ids (row_ids tail)

no_ids : (o : Option (List ℕ)) → o ≡ with_ids [] o
no_ids None = refl
no_ids (Some ids) = refl

-- no bytes spell no id
pub spells_none : Spells [] []
spells_none tail = no_ids (row_ids tail)

one_more : (ids : List ℕ) (id : ℕ) (o : Option (List ℕ)) → with_ids ids (o >>= λ more. Some (id ∷ more)) ≡ with_ids (ids ++ id ∷ []) o
one_more ids id None = refl
one_more ids id (Some more) = ap Some (sym (append_assoc ids (id ∷ []) more))

-- one id more
pub spells_more : (bytes ids : List ℕ) (id : ℕ) → id < 2 ^ 32 → Spells bytes ids → Spells (bytes ++ to_le_bytes w32 id) (ids ++ id ∷ [])
spells_more bytes ids id fits spells tail =
    ap row_ids (append_assoc bytes (to_le_bytes w32 id) tail)
    ∙ spells (to_le_bytes w32 id ++ tail)
    ∙ ap (λ n. with_ids ids (row_ids tail >>= λ more. Some (n ∷ more))) (from_le_bytes-to_le_bytes_4 id fits)
    ∙ one_more ids id (row_ids tail)

-- all bytes
pub spells-all : (bytes ids : List ℕ) → Spells bytes ids → row_ids bytes ≡ Some ids
spells-all bytes ids spells = ap row_ids (sym (append-nil bytes)) ∙ spells [] ∙ ap Some (append-nil ids)

-- the first four bytes
abbrev front_bytes : List ℕ → List ℕ
front_bytes bytes = get_or bytes 0 0 ∷ get_or bytes 1 0 ∷ get_or bytes 2 0 ∷ get_or bytes 3 0 ∷ []

-- four bytes at least are an id and what follows
first-id : (bytes : List ℕ) → 4 ≤ length bytes
    → row_ids bytes ≡ (row_ids (drop 4 bytes) >>= λ ids. Some (from_le_bytes w32 (front_bytes bytes) ∷ ids))
first-id [] le = absurd (omega arith)
first-id (a ∷ []) le = absurd (omega arith)
first-id (a ∷ b ∷ []) le = absurd (omega arith)
first-id (a ∷ b ∷ c ∷ []) le = absurd (omega arith)
first-id (a ∷ b ∷ c ∷ d ∷ bytes) le = refl

-- one to three bytes are none
pub no-id : (bytes : List ℕ) → length bytes < 4 → 0 < length bytes → row_ids bytes ≡ None
no-id [] less some = absurd (omega arith)
no-id (a ∷ []) less some = refl
no-id (a ∷ b ∷ []) less some = refl
no-id (a ∷ b ∷ c ∷ []) less some = refl
no-id (a ∷ b ∷ c ∷ d ∷ bytes) less some = absurd (omega arith)

-- one id more was read
pub read_more : (bytes ids left : List ℕ) → 4 ≤ length left → row_ids bytes ≡ with_ids ids (row_ids left)
    → row_ids bytes ≡ with_ids (ids ++ from_le_bytes w32 (get_or left 0 0 ∷ get_or left 1 0 ∷ get_or left 2 0 ∷ get_or left 3 0 ∷ []) ∷ [])
    (row_ids (drop 4 left))
read_more bytes ids left le so_far =
    so_far ∙ ap (with_ids ids) (first-id left le) ∙ one_more ids (from_le_bytes w32 (front_bytes left)) (row_ids (drop 4 left))

-- a length that isn't none
pub some-left : (n : ℕ) → false ≡ (n == 0) → 0 < n
some-left zero e = absurd (cc e)
some-left (suc n) e = omega arith
