-- Which values all texts that were seen are of.
use Rattle.std.specs.Prelude.{ℕ, ◌&&◌, not, List, [], ◌∷◌, if◌then◌else◌}
use Rattle.std.specs.List.{list_all}
use Rattle.col_model.specs.ColumnType as types
use Rattle.col_load_csv.specs.Kinds.{are_texts_of, is_number, is_whole}
use Rattle.col_load_csv.specs.declared.kind.Kind.{Kind}
use Rattle.col_load_csv.specs.declared.kind.Kind.TheVariants.{Signed, Unsigned, Fractions, Flags, Texts}
use Rattle.col_load_csv.specs.declared.seen.Seen.{Seen}

-- what is seen of texts
abbrev pub seen_of : List (List ℕ) → Seen
seen_of texts = record {
  signed = are_texts_of types.i64 texts;
  unsigned = are_texts_of types.u64 texts;
  numbers = list_all is_number texts;
  whole = list_all is_whole texts;
  flags = are_texts_of types.bool texts;
}

-- of some and of others
abbrev pub merged : Seen → Seen → Seen
merged a b = record {
  signed = a.signed && b.signed;
  unsigned = a.unsigned && b.unsigned;
  numbers = a.numbers && b.numbers;
  whole = a.whole && b.whole;
  flags = a.flags && b.flags;
}

-- of some and of a field, unless it is empty
abbrev pub with_field : Seen → List ℕ → Seen
with_field seen [] = seen
with_field seen (b ∷ bs) = merged seen (seen_of ((b ∷ bs) ∷ []))

-- the kind that is left
abbrev pub kind_seen : Seen → Kind
kind_seen seen =
    if seen.signed then Signed else if seen.unsigned then Unsigned
    else if seen.numbers && not seen.whole then Fractions
    else if seen.flags then Flags else Texts
