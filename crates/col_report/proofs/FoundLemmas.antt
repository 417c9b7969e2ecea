-- Lines that begin with a word, and those of a column's name and type.
use Rattle.std.proofs.Common.{◌≡◌, ◌∙◌, ℕ, Bool, List, [], ◌∷◌, ◌++◌, codes, option_map, Option, Some, None, refl, sym, ap, ap₂, append-nil, append_assoc}
use Rattle.json.specs.Print.{quoted, escape_byte}
use Rattle.serde_json.specs.Data.{Data, null}
use Rattle.serde_json.specs.Written.{compact_text}
use Rattle.col_model.specs.ColumnType.{ColumnType, type_name}
use Rattle.col_model.specs.Table.{Content, Column, Table}
use Rattle.col_program.specs.Queries.{column_named}
use Rattle.col_program.specs.Report.{lines_text, found_in, found_line, counts_in, counts_line, docs_data, Prints}
use Rattle.col_program.specs.Script as script
use Rattle.col_report.specs.Printed.{Spells}
use Rattle.col_report.specs.Reported.{name_text, find_line, facet_line, docs_in, counts_of, docs_line}

-- ---- the text of a line

-- the name and the type of a column
pub name-spelled : (a c d e g name word : List ℕ) (t : ColumnType) → word ≡ type_name t → c ≡ a ++ quoted name
    → d ≡ c ++ 44 ∷ [] → e ≡ d ++ quoted word → g ≡ e ++ 44 ∷ [] → g ≡ a ++ name_text name t
unfolding name_text
name-spelled a c d e g name word t is one two three four =
    let chain : g ≡ a ++ (quoted name ++ 44 ∷ (quoted word ++ 44 ∷ [])) = rw (four, three, two, one) (simp append_assoc) in
    chain ∙ ap (λ w. a ++ (quoted name ++ 44 ∷ (quoted w ++ 44 ∷ []))) is

regroup : (n w f : List ℕ) → ((n ++ 44 ∷ (w ++ 44 ∷ (f ++ 93 ∷ []))) ++ 10 ∷ []) ++ [] ≡ (n ++ 44 ∷ (w ++ 44 ∷ [])) ++ (f ++ 93 ∷ 10 ∷ [])
regroup n w f = simp (append_assoc, append-nil)

find-text : (f : script.Find) (d : Data)
    → lines_text (find_line f d ∷ []) ≡ codes "[\"find\"," ++ (name_text f.name f.column_type ++ (compact_text d ++ 93 ∷ 10 ∷ []))
unfolding name_text escape_byte
find-text f d = ap (λ s. codes "[\"find\"," ++ s) (regroup (quoted f.name) (quoted (type_name f.column_type)) (compact_text d))

facet-text : (name : List ℕ) (t : ColumnType) (d : Data)
    → lines_text (facet_line name t d ∷ []) ≡ codes "[\"facet\"," ++ (name_text name t ++ (compact_text d ++ 93 ∷ 10 ∷ []))
unfolding name_text escape_byte
facet-text name t d = ap (λ s. codes "[\"facet\"," ++ s) (regroup (quoted name) (quoted (type_name t)) (compact_text d))

docs-text : (short : Bool) (docs : List ℕ)
    → lines_text (docs_line short docs ∷ []) ≡ codes "[\"query\"," ++ (compact_text (docs_data short docs) ++ 93 ∷ 10 ∷ [])
unfolding escape_byte
docs-text short docs =
    ap (λ s. codes "[\"query\"," ++ s) (append-nil _ ∙ append_assoc (compact_text (docs_data short docs)) (93 ∷ []) (10 ∷ []))

-- what stands in front, what was found and the end are a line
line-printed : (a b c d front : List ℕ) (line found : Data)
    → lines_text (line ∷ []) ≡ front ++ (compact_text found ++ 93 ∷ 10 ∷ []) → b ≡ a ++ front → Spells b c found
    → d ≡ c ++ codes "]\n" → Prints a d (line ∷ [])
unfolding Prints Spells
line-printed a b c d front line found text one two three =
    let chain : d ≡ a ++ (front ++ (compact_text found ++ 93 ∷ 10 ∷ [])) = rw (three, two, one) (simp append_assoc) in
    chain ∙ ap (λ s. a ++ s) (sym text)

null-spelled : (c d : List ℕ) → d ≡ c ++ codes "null]\n" → d ≡ (c ++ codes "null") ++ codes "]\n"
null-spelled c d e = e ∙ sym (append_assoc c (codes "null") (codes "]\n"))

-- ---- a lookup

module _ (a b c shown : List ℕ) (u : ColumnType) (f : script.Find) (named : shown ≡ f.name) (typed : u ≡ f.column_type)
    (one : b ≡ a ++ codes "[\"find\",") (two : c ≡ b ++ name_text shown u) where
  find-front : c ≡ a ++ (codes "[\"find\"," ++ name_text f.name f.column_type)
  find-front =
      two ∙ ap₂ (λ b t. b ++ t) one (ap₂ name_text named typed)
      ∙ append_assoc a (codes "[\"find\",") (name_text f.name f.column_type)

  found-text : (d : Data)
      → lines_text (find_line f d ∷ [])
      ≡ (codes "[\"find\"," ++ name_text f.name f.column_type) ++ (compact_text d ++ 93 ∷ 10 ∷ [])
  found-text d =
      find-text f d
      ∙ sym (append_assoc (codes "[\"find\",") (name_text f.name f.column_type) (compact_text d ++ 93 ∷ 10 ∷ []))

  -- the line of a lookup by what it found
  pub found-printed : (d e : List ℕ) (found : Data) → Spells c d found → e ≡ d ++ codes "]\n"
      → Prints a e (find_line f found ∷ [])
  found-printed d e found three four =
      line-printed a c d e (codes "[\"find\"," ++ name_text f.name f.column_type) (find_line f found) found
      (found-text found) find-front three four

  -- the line of one that has no column
  pub absent-printed : (d : List ℕ) → d ≡ c ++ codes "null]\n" → Prints a d (find_line f null ∷ [])
  unfolding Spells
  absent-printed d three = found-printed (c ++ codes "null") d null refl (null-spelled c d three)

-- what a lookup finds in the column of its name and type is its line in the report
pub line-found : (t : Table) (short : Bool) (f : script.Find) (o : Option Content) (shown : List ℕ) (u : ColumnType)
    → shown ≡ f.name → u ≡ f.column_type → o ≡ option_map (λ c. c.content) (column_named shown u t.columns)
    → find_line f (docs_in short f o) ≡ found_line t short f
line-found t short f o shown u named typed e =
    ap (find_line f) (ap (docs_in short f)
    (e ∙ ap₂ (λ n t2. option_map (λ c. c.content) (column_named n t2 t.columns)) named typed)
    ∙ by (column_named f.name f.column_type t.columns))
  where
    by : (o : Option Column) → docs_in short f (option_map (λ c. c.content) o) ≡ found_in short f o
    by None = refl
    by (Some c) = refl

-- ---- counts

module _ (a b c name : List ℕ) (t : ColumnType) (one : b ≡ a ++ codes "[\"facet\",") (two : c ≡ b ++ name_text name t) where
  facet-front : c ≡ a ++ (codes "[\"facet\"," ++ name_text name t)
  facet-front = two ∙ ap (λ b. b ++ name_text name t) one ∙ append_assoc a (codes "[\"facet\",") (name_text name t)

  -- the line of a facet by its counts
  pub counts-printed : (d e : List ℕ) (found : Data) → Spells c d found → e ≡ d ++ codes "]\n"
      → Prints a e (facet_line name t found ∷ [])
  counts-printed d e found three four =
      line-printed a c d e (codes "[\"facet\"," ++ name_text name t) (facet_line name t found) found
      (facet-text name t found
      ∙ sym (append_assoc (codes "[\"facet\",") (name_text name t) (compact_text found ++ 93 ∷ 10 ∷ [])))
      facet-front three four

  -- the line of one that has no column
  pub no-counts-printed : (d : List ℕ) → d ≡ c ++ codes "null]\n" → Prints a d (facet_line name t null ∷ [])
  unfolding Spells
  no-counts-printed d three = counts-printed (c ++ codes "null") d null refl (null-spelled c d three)

-- the counts of the column of a name and a type are the facet's line in the report
pub line-counted : (t : Table) (name : List ℕ) (kind : ColumnType) (o : Option Content)
    → o ≡ option_map (λ c. c.content) (column_named name kind t.columns)
    → facet_line name kind (counts_of kind o) ≡ counts_line t name kind
line-counted t name kind o e =
    ap (facet_line name kind) (ap (counts_of kind) e ∙ by (column_named name kind t.columns))
  where
    by : (o : Option Column) → counts_of kind (option_map (λ c. c.content) o) ≡ counts_in kind o
    by None = refl
    by (Some c) = refl

-- ---- a query

-- the line of the documents of a query
pub docs-printed : (a b c d : List ℕ) (short : Bool) (docs : List ℕ) → b ≡ a ++ codes "[\"query\","
    → Spells b c (docs_data short docs) → d ≡ c ++ codes "]\n" → Prints a d (docs_line short docs ∷ [])
docs-printed a b c d short docs one two three =
    line-printed a b c d (codes "[\"query\",") (docs_line short docs) (docs_data short docs) (docs-text short docs) one two three
