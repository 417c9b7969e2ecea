-- The text of a table, read back.
use Rattle.std.proofs.Common.{◌≡◌, ℕ, List, [], ◌∷◌, ◌++◌, map, Some, refl, subst}
use Rattle.std.specs.List.{AllByRecursion, range_with_len}
use Rattle.csv.specs.Machine.{next_record}
use Rattle.csv.specs.Reading.{default_config, strip_bom, Reached}
use Rattle.csv.specs.Writing.{default_writer, read_back, row_text}
use Rattle.csv.specs.declared.parser.State.TheVariants as st
use Rattle.csv.proofs.RoundTrip.{read-write}
use Rattle.col_csv.specs.Csv.{csv_of, record_text, records_of, records_text, row_fields}
use Rattle.col_csv.specs.ReadBack.{TextsReadBack}

-- a record that reads back as it is: it has a field
abbrev IsKept : List (List ℕ) → Type 0
IsKept fields = read_back fields ≡ fields

-- the text of such records is read to its end
text-reached : (rows : List (List (List ℕ))) → AllByRecursion IsKept rows
    → Reached default_config st.StartRecord (records_text rows) rows st.StartRecord []
unfolding Reached record_text
text-reached [] all = (refl, refl)
text-reached (row ∷ rows) all =
    let rest = records_text rows in (
      (row, st.StartRecord, rest),
      subst (λ fs. next_record default_config st.StartRecord [] [] (row_text default_writer row ++ rest)
          ≡ Some (fs, st.StartRecord, rest)) all.0 (read-write row rest),
      refl,
      text-reached rows all.1,
    )

-- records that are made so that each is kept
all-kept : {X : Type 0} (f : X → List (List ℕ)) → ((x : X) → IsKept (f x)) → (xs : List X) → AllByRecursion IsKept (map f xs)
all-kept f kept [] = tt
all-kept f kept (x ∷ xs) = (kept x, all-kept f kept xs)

-- a text that starts with the mark of the first record has no byte order mark
no-bom : (bytes : List ℕ) → strip_bom (35 ∷ bytes) ≡ 35 ∷ bytes
unfolding strip_bom
no-bom [] = refl
no-bom (b ∷ []) = refl
no-bom (b ∷ c ∷ rest) = refl

-- The text of each table reads back.
pub reads-back : TextsReadBack
unfolding csv_of record_text next_record
reads-back t = record {
  records = (
    st.StartRecord,
    [],
    text-reached (records_of t.columns t.row_count) (refl, all-kept (row_fields t.columns) (λ d. refl) (range_with_len 0 t.row_count)),
    refl,
  );
  unmarked = no-bom _;
}
