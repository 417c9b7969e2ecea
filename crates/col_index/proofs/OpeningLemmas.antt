-- Parts of the bytes of indexes.
use Rattle.std.proofs.Common.{◌≡◌, ℕ, ◌⊎◌, inl, inr, zero, suc, [], ◌∷◌, ◌<◌, ◌+◌, ◌-◌, ◌^◌, ◌≤◌, ◌&&◌, nat_lt, Bool, List, ◌++◌, length, drop, Option, Some, None, option_map, refl, sym, ◌∙◌, ap, subst, arith, length-append, true, false}
use Rattle.std.specs.Int.{w64}
use Rattle.std.proofs.lemmas.Bool.{lt-ltb}
use Rattle.std.proofs.lemmas.Option.{option_and_then_some, cond_some}
use Rattle.std.proofs.Math.Seq.{drop-append_seam}
use Rattle.col_common.specs.Reading.{◌>>=◌, IsBytes, only_if, parts_by_first}
use Rattle.col_common.specs.VInt.{vint, vint_bytes}
use Rattle.col_common.proofs.VIntLemmas.{vint_bytes-vint}
use Rattle.col_common.specs.Ascending.{is_never_falling, differences}
use Rattle.col_model.specs.Index.{RowSet, row_set, listed_set, run_set, formed_set, row_offsets, are_offsets, offset_counts_v1}
use Rattle.col_model.specs.U64List.{values64}
use Rattle.col_model.proofs.ItemLaws.{only_if-none}
use Rattle.col_index.specs.Sets.{is_row_list, set_by}
use Rattle.col_index.specs.Offsets.{offsets_by, old_offsets_by}
use Rattle.col_index.specs.Opening.{row_count_at}
use Rattle.col_index.specs.Versions.{version_number}
use Rattle.col_index.specs.declared.format_version.Version.{Version}
use Rattle.col_index.specs.declared.format_version.Version.TheVariants.{V1, V2, V3}

-- what stands behind a number ends with the bytes
pub vint-behind : (bytes rest : List ℕ) (n : ℕ) → IsBytes bytes → vint bytes ≡ Some (n, rest)
    → (length rest ≤ length bytes) × (drop (length bytes - length rest) bytes ≡ rest)
vint-behind bytes rest n b e =
    let spelled : bytes ≡ vint_bytes n ++ rest = vint_bytes-vint bytes n rest b e in
    let long : length bytes ≡ length (vint_bytes n) + length rest = ap length spelled ∙ length-append (vint_bytes n) rest in
    let start : length bytes - length rest ≡ length (vint_bytes n) = omega (arith, long) in
    (omega (arith, long), ap (λ k. drop k bytes) start ∙ ap (drop (length (vint_bytes n))) spelled ∙ drop-append_seam (vint_bytes n) rest)

-- a row count that fits 32 bits
pub row_count-fits : (bytes rest : List ℕ) (n : ℕ) → n ≤ 4294967295 → vint bytes ≡ Some (n, rest) → Some (n, rest) ≡ row_count_at bytes
row_count-fits bytes rest n h e = rw (e, lt-ltb n (2 ^ 32) (omega arith)) refl

-- the rows, where their count passed the test and they are a set
abbrev tested : Bool → ℕ → List ℕ → Option RowSet
tested fits n rows = only_if (fits && is_row_list n rows) (record { num_rows = n; rows = rows })

-- the rows behind their count
listed_set-counted : (bytes rest : List ℕ) (n : ℕ) → Some (n, rest) ≡ row_count_at bytes → listed_set bytes ≡ (values64 rest >>= set_by n)
unfolding listed_set
listed_set-counted bytes rest n e =
    option_and_then_some (λ p. only_if (nat_lt p.0 (2 ^ 32)) p) (vint bytes) (n, rest) (sym e) (λ x o f.
    let parts = cond_some (nat_lt x.0 (2 ^ 32)) x (n, rest) f in
    let read : vint bytes ≡ Some (n, rest) = o ∙ ap Some parts.1 in
    let fits : nat_lt n (2 ^ 32) ≡ true = subst (λ q. nat_lt q.0 (2 ^ 32) ≡ true) parts.1 parts.0 in
    rw read (ap (λ t. values64 rest >>= tested t n) fits))

-- no rows without a count
pub listed_set-uncounted : (bytes : List ℕ) → None ≡ row_count_at bytes → listed_set bytes ≡ None
unfolding listed_set
listed_set-uncounted bytes e = at (vint bytes) e
  where
    past : (n : ℕ) (values : Option (List ℕ)) → (values >>= tested false n) ≡ None
    past n None = refl
    past n (Some rows) = refl

    at : (o : Option (ℕ × List ℕ)) → None ≡ (o >>= λ p. only_if (nat_lt p.0 (2 ^ 32)) p)
        → (o >>= λ p. values64 p.1 >>= tested (nat_lt p.0 (2 ^ 32)) p.0) ≡ None
    at None f = refl
    at (Some p) f = ap (λ t. values64 p.1 >>= tested t p.0) (only_if-none (nat_lt p.0 (2 ^ 32)) p f) ∙ past p.0 (values64 p.1)

-- rows that aren't read
pub listed_set-unread : (bytes rest : List ℕ) (n : ℕ) → Some (n, rest) ≡ row_count_at bytes → values64 rest ≡ None → listed_set bytes ≡ None
listed_set-unread bytes rest n e f = listed_set-counted bytes rest n e ∙ ap (λ values. values >>= set_by n) f

-- rows that are read
pub listed_set-read : (bytes rest rows : List ℕ) (n : ℕ) → Some (n, rest) ≡ row_count_at bytes → values64 rest ≡ Some rows
    → listed_set bytes ≡ set_by n rows
listed_set-read bytes rest rows n e f = listed_set-counted bytes rest n e ∙ ap (λ values. values >>= set_by n) f

-- ---- rows as a version has them

-- versions 1 and 2 list rows one by one
pub row_set-listed : (v : Version) (bytes : List ℕ) → (v ≡ V1) ⊎ (v ≡ V2) → listed_set bytes ≡ row_set (version_number v) bytes
unfolding row_set
row_set-listed v bytes (inl e) = rw e refl
row_set-listed v bytes (inr e) = rw e refl

-- version 3 lists rows by a form
pub row_set-formed : (v : Version) (bytes : List ℕ) → v ≡ V3 → formed_set bytes ≡ row_set (version_number v) bytes
unfolding row_set
row_set-formed v bytes e = rw e refl

-- no rows without a form
pub formed_set-none : (bytes : List ℕ) → length bytes < 1 → formed_set bytes ≡ None
unfolding formed_set
formed_set-none [] h = refl
formed_set-none (x ∷ xs) h = absurd (omega (arith, h))

-- rows one by one
pub formed_set-listed : (form : ℕ) (bytes : List ℕ) → form ≡ 0 → listed_set bytes ≡ formed_set (form ∷ bytes)
unfolding formed_set
formed_set-listed form bytes e = rw e refl

-- rows in runs
pub formed_set-runs : (form : ℕ) (bytes : List ℕ) → form ≡ 1 → run_set bytes ≡ formed_set (form ∷ bytes)
unfolding formed_set
formed_set-runs form bytes e = rw e refl

-- no other form
pub formed_set-other : (form : ℕ) (bytes : List ℕ) → 1 < form → formed_set (form ∷ bytes) ≡ None
unfolding formed_set
formed_set-other zero bytes h = absurd (omega (arith, h))
formed_set-other (suc zero) bytes h = absurd (omega (arith, h))
formed_set-other (suc (suc form)) bytes h = refl

-- the offsets behind their rows
pub row_offsets-parted : (version : ℕ) (bytes a b : List ℕ) → parts_by_first w64 bytes ≡ Some (a, b)
    → row_offsets version bytes ≡ (row_set version a >>= λ set. values64 b >>= offsets_by set)
unfolding row_offsets
row_offsets-parted version bytes a b e = rw e refl

-- bytes that have no two parts stand for no offsets
pub row_offsets-unparted : (version : ℕ) (bytes : List ℕ) → parts_by_first w64 bytes ≡ None → row_offsets version bytes ≡ None
unfolding row_offsets
row_offsets-unparted version bytes e = rw e refl

-- no set, and no offsets
pub row_offsets-unset : (version : ℕ) (bytes a b : List ℕ) → parts_by_first w64 bytes ≡ Some (a, b)
    → row_set version a ≡ None → row_offsets version bytes ≡ None
row_offsets-unset version bytes a b e f = row_offsets-parted version bytes a b e ∙ ap (λ s. s >>= λ set. values64 b >>= offsets_by set) f

-- bytes whose second part stands for no list stand for no offsets
pub row_offsets-unread : (version : ℕ) (bytes a b : List ℕ) (set : RowSet) → parts_by_first w64 bytes ≡ Some (a, b)
    → row_set version a ≡ Some set → values64 b ≡ None → row_offsets version bytes ≡ None
row_offsets-unread version bytes a b set e f g =
    row_offsets-parted version bytes a b e ∙ ap (λ s. s >>= λ set. values64 b >>= offsets_by set) f
    ∙ ap (λ values. values >>= offsets_by set) g

-- a set and offsets that are read
pub row_offsets-read : (version : ℕ) (bytes a b starts : List ℕ) (set : RowSet) → parts_by_first w64 bytes ≡ Some (a, b)
    → row_set version a ≡ Some set → values64 b ≡ Some starts → row_offsets version bytes ≡ offsets_by set starts
row_offsets-read version bytes a b starts set e f g =
    row_offsets-parted version bytes a b e ∙ ap (λ s. s >>= λ set. values64 b >>= offsets_by set) f
    ∙ ap (λ values. values >>= offsets_by set) g

-- ---- offsets of all rows

-- offsets that aren't read
pub offset_counts_v1-unread : (bytes : List ℕ) → values64 bytes ≡ None → offset_counts_v1 bytes ≡ None
unfolding offset_counts_v1
offset_counts_v1-unread bytes e = rw e refl

-- counts that are told apart by a test
tested_counts : (b : Bool) (starts : List ℕ) → only_if b (differences starts) ≡ option_map differences (only_if b starts)
tested_counts true starts = refl
tested_counts false starts = refl

-- offsets that are read
pub offset_counts_v1-read : (bytes starts : List ℕ) → values64 bytes ≡ Some starts
    → offset_counts_v1 bytes ≡ option_map differences (old_offsets_by starts)
unfolding offset_counts_v1
offset_counts_v1-read bytes starts e = rw e (tested_counts (are_offsets starts && is_never_falling starts) starts)
