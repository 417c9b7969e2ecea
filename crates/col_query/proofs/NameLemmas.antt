-- The columns that the steps of a query name are those that the query names.
use Rattle.std.proofs.Common.{◌≡◌, ℕ, suc, ◌≤◌, ◌||◌, Bool, true, false, cond, List, [], ◌∷◌, length, map, filter, count_by, get_or, slice_get, Option, Some, None, refl, sym, ap, ap₂, ◌∙◌, arith}
use Rattle.std.specs.List.{list_any}
use Rattle.std.proofs.lemmas.List.Sums.{sum_by-cons}
use Rattle.std.proofs.lemmas.Option.{same_Some}
use Rattle.col_common.specs.Reading.{◌>>=◌}
use Rattle.col_model.specs.ColumnType.{ColumnType}
use Rattle.col_model.specs.File.{parts_of, part_column, table_of_part}
use Rattle.col_model.specs.Keys.{Entry, FileKeys, are_keys, keys}
use Rattle.col_model.proofs.SharedTypes.{some≢none}
use Rattle.col_model.proofs.TestLaws.{both-ways}
use Rattle.col_opened.specs.Chosen.{chosen, table_where}
use Rattle.col_program.specs.Queries.{Query, all, has, range, none_of, each_of, some_of, Queries, no_queries, query}
use Rattle.col_query.specs.Named.{names, some_names, is_of, entries_of, table_named, step_names, some_names_entry, AreMarks}
use Rattle.col_questions.specs.Steps.{queries_with, of_joint, joined, step_taken, steps_taken, tree_of, AreSteps}
use Rattle.col_questions.specs.declared.step.Step.{Step}
use Rattle.col_questions.specs.declared.step.Step.TheVariants as steps
use Rattle.col_questions.specs.declared.step.Joint.{Joint}
use Rattle.col_questions.specs.declared.step.Joint.TheVariants as joints

module _ (own : List ℕ) (kind : ColumnType) where
  -- some query of a stack names the column
  abbrev stacked : List Query → Bool
  stacked qs = list_any (λ q. names q own kind) qs

  or-nothing : (a : Bool) → (a || false) ≡ (false || a)
  or-nothing true = refl
  or-nothing false = refl

  or-last : (a b c : Bool) → (a || (b || c)) ≡ ((a || b) || c)
  or-last true b c = refl
  or-last false b c = refl

  or-turned : (a b c : Bool) → ((b || a) || c) ≡ (a || (b || c))
  or-turned true true c = refl
  or-turned true false c = refl
  or-turned false true c = refl
  or-turned false false c = refl

  named-with : (qs : Queries) (q : Query) → some_names (queries_with qs q) own kind ≡ (some_names qs own kind || names q own kind)
  named-with no_queries q = or-nothing (names q own kind)
  named-with (query p ps) q =
      ap (λ b. names p own kind || b) (named-with ps q) ∙ or-last (names p own kind) (some_names ps own kind) (names q own kind)

  -- whether it names the column, where it is one
  abbrev named-of : Option Query → Bool
  named-of None = false
  named-of (Some q) = names q own kind

  joined-names : (j : Joint) (q p r : Query) → joined j q p ≡ Some r → names r own kind ≡ (names p own kind || names q own kind)
  joined-names joints.And q (each_of qs) r e = sym (ap named-of e) ∙ named-with qs q
  joined-names joints.Or q (some_of qs) r e = sym (ap named-of e) ∙ named-with qs q
  joined-names joints.And q all r e = absurd (some≢none r (sym e))
  joined-names joints.And q (has name t) r e = absurd (some≢none r (sym e))
  joined-names joints.And q (range name t lo hi) r e = absurd (some≢none r (sym e))
  joined-names joints.And q (none_of p) r e = absurd (some≢none r (sym e))
  joined-names joints.And q (some_of ps) r e = absurd (some≢none r (sym e))
  joined-names joints.Or q all r e = absurd (some≢none r (sym e))
  joined-names joints.Or q (has name t) r e = absurd (some≢none r (sym e))
  joined-names joints.Or q (range name t lo hi) r e = absurd (some≢none r (sym e))
  joined-names joints.Or q (none_of p) r e = absurd (some≢none r (sym e))
  joined-names joints.Or q (each_of ps) r e = absurd (some≢none r (sym e))

  begun : (j : Joint) → names (of_joint j no_queries) own kind ≡ false
  begun joints.And = refl
  begun joints.Or = refl

  -- a step adds the column that it names
  taken-names : (s : Step) (qs ps : List Query) → step_taken s qs ≡ Some ps → stacked ps ≡ (step_names s own kind || stacked qs)
  taken-names steps.All qs ps e = ap stacked (sym (same_Some (all ∷ qs) ps e))
  taken-names (steps.Has name t) qs ps e = ap stacked (sym (same_Some _ ps e))
  taken-names (steps.Range name t lo hi) qs ps e = ap stacked (sym (same_Some _ ps e))
  taken-names steps.Not [] ps e = absurd (some≢none ps (sym e))
  taken-names steps.Not (q ∷ qs) ps e = ap stacked (sym (same_Some (none_of q ∷ qs) ps e))
  taken-names (steps.Begin j) qs ps e =
      ap stacked (sym (same_Some (of_joint j no_queries ∷ qs) ps e)) ∙ ap (λ b. b || stacked qs) (begun j)
  taken-names (steps.Join j) [] ps e = absurd (some≢none ps (sym e))
  taken-names (steps.Join j) (q ∷ []) ps e = absurd (some≢none ps (sym e))
  taken-names (steps.Join j) (q ∷ p ∷ qs) ps e = by (joined j q p) refl e
    where
      by : (o : Option Query) → joined j q p ≡ o → (o >>= λ r. Some (r ∷ qs)) ≡ Some ps
          → stacked ps ≡ (names q own kind || (names p own kind || stacked qs))
      by None is e = absurd (some≢none ps (sym e))
      by (Some r) is e =
          ap stacked (sym (same_Some (r ∷ qs) ps e)) ∙ ap (λ b. b || stacked qs) (joined-names j q p r is)
          ∙ or-turned (names q own kind) (names p own kind) (stacked qs)

  or-behind : (a b c : Bool) → (b || (a || c)) ≡ ((a || b) || c)
  or-behind true true c = refl
  or-behind true false c = refl
  or-behind false true c = refl
  or-behind false false c = refl

  -- and steps add all that they name
  all-names : (ss : List Step) (qs ps : List Query) → steps_taken ss qs ≡ Some ps
      → stacked ps ≡ (list_any (λ s. step_names s own kind) ss || stacked qs)
  all-names [] qs ps e = ap stacked (sym (same_Some qs ps e))
  all-names (s ∷ ss) qs ps e = by (step_taken s qs) refl (λ made is. all-names ss made ps is) e
    where
      by : (o : Option (List Query)) → step_taken s qs ≡ o
          → ((made : List Query) → steps_taken ss made ≡ Some ps
          → stacked ps ≡ (list_any (λ s. step_names s own kind) ss || stacked made))
          → (o >>= steps_taken ss) ≡ Some ps
          → stacked ps ≡ ((step_names s own kind || list_any (λ s. step_names s own kind) ss) || stacked qs)
      by None is later e = absurd (some≢none ps (sym e))
      by (Some made) is later e =
          later made e
          ∙ ap (λ b. list_any (λ s. step_names s own kind) ss || b) (taken-names s qs made is)
          ∙ or-behind (step_names s own kind) (list_any (λ s. step_names s own kind) ss) (stacked qs)

  drop-false : (a : Bool) → (a || false) ≡ a
  drop-false true = refl
  drop-false false = refl

  -- the steps of a query name what the query names
  pub tree-names : (ss : List Step) → AreSteps ss → list_any (λ s. step_names s own kind) ss ≡ names (tree_of ss) own kind
  tree-names ss are =
      sym (drop-false (list_any (λ s. step_names s own kind) ss)) ∙ sym (all-names ss [] (tree_of ss ∷ []) are.built)
      ∙ drop-false (names (tree_of ss) own kind)

-- lists of flags that are set at the same places
flags-same : {A : Type 0} (test : A → Bool) (xs : List A) (flags : List Bool) → length flags ≡ length xs
    → ((i : ℕ) (x : A) → slice_get xs i ≡ Some x → get_or flags i false ≡ test x) → flags ≡ map test xs
flags-same test [] [] long h = refl
flags-same test [] (f ∷ fs) long h = absurd (omega (arith, long))
flags-same test (x ∷ xs) [] long h = absurd (omega (arith, long))
flags-same test (x ∷ xs) (f ∷ fs) long h =
    ap₂ (λ (g : Bool) gs. g ∷ gs) (h 0 x refl) (flags-same test xs fs (omega (arith, long)) (λ i y here. h (suc i) y here))

-- where no two entries have the same key, the marked ones are those that the query names
pub marks-are : (ss : List Step) (es : List Entry) (flags : List Bool) → AreSteps ss → AreMarks ss es flags
    → are_keys (map (λ e. e.key) es) ≡ true → flags ≡ map (is_of (tree_of ss)) es
marks-are ss es flags are m distinct =
    flags-same (is_of (tree_of ss)) es flags m.long (λ i e here.
    both-ways (get_or flags i false) (some_names_entry ss e) (m.named i e here) (m.whole distinct i e here)
    ∙ tree-names e.key.name e.key.column_type ss are)

-- no more are marked than the query names
count-few : {A : Type 0} (test : A → Bool) (xs : List A) (flags : List Bool) → length flags ≡ length xs
    → ((i : ℕ) (x : A) → slice_get xs i ≡ Some x → get_or flags i false ≡ true → test x ≡ true)
    → count_by (λ f. f) flags ≤ length (filter test xs)
count-few test [] [] long h = omega arith
count-few test [] (f ∷ fs) long h = absurd (omega (arith, long))
count-few test (x ∷ xs) [] long h = absurd (omega (arith, long))
count-few test (x ∷ xs) (true ∷ fs) long h =
    let rest = count-few test xs fs (omega (arith, long)) (λ i y here. h (suc i) y here) in
    let kept : length (cond (test x) (x ∷ filter test xs) (filter test xs)) ≡ suc (length (filter test xs)) =
    ap (λ b. length (cond b (x ∷ filter test xs) (filter test xs))) (h 0 x refl refl) in
    omega (arith, sum_by-cons (λ f. cond f 1 0) true fs, rest, kept)
count-few test (x ∷ xs) (false ∷ fs) long h =
    let rest = count-few test xs fs (omega (arith, long)) (λ i y here. h (suc i) y here) in
    omega (arith, sum_by-cons (λ f. cond f 1 0) false fs, rest, longer (test x))
  where
    longer : (b : Bool) → length (filter test xs) ≤ length (cond b (x ∷ filter test xs) (filter test xs))
    longer true = omega arith
    longer false = omega arith

pub marks-few : (ss : List Step) (es : List Entry) (flags : List Bool) → AreSteps ss → AreMarks ss es flags
    → count_by (λ f. f) flags ≤ length (entries_of (tree_of ss) es)
marks-few ss es flags are m =
    count-few (is_of (tree_of ss)) es flags m.long
    (λ i e here flag. sym (tree-names e.key.name e.key.column_type ss are) ∙ m.named i e here flag)

-- the chosen items by a test
chosen-by : {A B : Type 0} (f : A → B) (test : A → Bool) (own : B → Bool) (xs : List A) → ((x : A) → own (f x) ≡ test x)
    → chosen (map test xs) (map f xs) ≡ filter own (map f xs)
chosen-by f test own [] same = refl
chosen-by f test own (x ∷ xs) same = by (test x) refl (chosen-by f test own xs same)
  where
    by : (b : Bool) → test x ≡ b → chosen (map test xs) (map f xs) ≡ filter own (map f xs)
        → chosen (b ∷ map test xs) (f x ∷ map f xs)
        ≡ cond (own (f x)) (f x ∷ filter own (map f xs)) (filter own (map f xs))
    by true e behind = ap (λ r. f x ∷ r) behind
        ∙ sym (ap (λ b. cond b (f x ∷ filter own (map f xs)) (filter own (map f xs))) (same x ∙ e))
    by false e behind = behind
        ∙ sym (ap (λ b. cond b (f x ∷ filter own (map f xs)) (filter own (map f xs))) (same x ∙ e))

-- the table of the marked columns is that of the named ones
pub table-same : (q : Query) (bytes : List ℕ) (k : FileKeys) (flags : List Bool) → keys bytes ≡ Some k
    → flags ≡ map (is_of q) k.entries → table_where flags bytes ≡ table_named q bytes
unfolding parts_of
table-same q bytes k flags read same =
    rw read (ap (λ cs. table_of_part (record { row_count = k.row_count; columns = cs }))
    (ap (λ fs. chosen fs (map (part_column bytes k) k.entries)) same
    ∙ chosen-by (part_column bytes k) (is_of q) (λ c. names q c.name c.column_type) k.entries (λ e. refl)))
