-- The words that lines begin with.
use Rattle.std.proofs.Common.{◌≡◌, ℕ, Bool, true, false, cond, List, [], ◌∷◌, ◌++◌, map, Option, Some, None, refl, sym, ◌∙◌, ap, bytes_eq}
use Rattle.std.specs.Prelude.{find, codes}
use Rattle.std.proofs.lemmas.Slice.Eq.{bytes_eq-Decides}
use Rattle.serde_json.specs.Data.{Data}
use Rattle.serde_json.specs.Find.{as_str}
use Rattle.col_common.specs.Reading.{◌>>=◌}
use Rattle.col_model.specs.ColumnType.{ColumnType, type_name}
use Rattle.col_model.specs.ColumnType as types
use Rattle.col_model.proofs.ListLaws.{find-passes}
use Rattle.col_program.specs.Script.{Line, shapes, line_among, value_line, segment_line, type_line, sorted_line, tie_line, require_line, order_line, sort_line, find_line, facet_line, query_line}
use Rattle.col_program.specs.Values.{as_type, type_named, all_types}
use Rattle.col_questions.proofs.WordLemmas.{other, none_of_seven}
use Rattle.col_lines.specs.Lines.{control_shapes}

-- none of ten
none_of_ten : {A : Type 0} (p : A → Bool) (a b c d e f g h i j : A) → p a ≡ false → p b ≡ false → p c ≡ false
    → p d ≡ false → p e ≡ false → p f ≡ false → p g ≡ false → p h ≡ false → p i ≡ false → p j ≡ false
    → find p (a ∷ b ∷ c ∷ d ∷ e ∷ f ∷ g ∷ h ∷ i ∷ j ∷ []) ≡ None
none_of_ten p a b c d e f g h i j ha hb hc hd he hf hg hh hi hj =
    rw (ha, hb, hc) (none_of_seven p d e f g h i j hd he hf hg hh hi hj)

-- a word that none of the other lines begins with
pub no_control : (d : Data) (ds : List Data) (word : List ℕ) → as_str d ≡ Some word → (word ≡ codes "segment" → ⊥)
    → (word ≡ codes "type" → ⊥) → (word ≡ codes "sorted" → ⊥)
    → (word ≡ codes "tie" → ⊥) → (word ≡ codes "require" → ⊥) → (word ≡ codes "order" → ⊥)
    → (word ≡ codes "sort" → ⊥) → (word ≡ codes "find" → ⊥) → (word ≡ codes "facet" → ⊥)
    → (word ≡ codes "query" → ⊥)
    → line_among control_shapes (d ∷ ds) ≡ None
no_control d ds word s se ty so ti re or st fi fa qu =
    ap (λ o. o >>= λ word. find (λ shape. bytes_eq shape.0 word) control_shapes >>= λ shape. shape.1 ds) s
    ∙ ap (λ o. o >>= λ shape. shape.1 ds) (none_of_ten {A = List ℕ × (List Data → Option Line)} (λ shape. bytes_eq shape.0 word)
    (codes "segment", segment_line) (codes "type", type_line) (codes "sorted", sorted_line) (codes "tie", tie_line)
    (codes "require", require_line) (codes "order", order_line) (codes "sort", sort_line)
    (codes "find", find_line) (codes "facet", facet_line) (codes "query", query_line)
    (other (codes "segment") word se) (other (codes "type") word ty) (other (codes "sorted") word so)
    (other (codes "tie") word ti) (other (codes "require") word re) (other (codes "order") word or)
    (other (codes "sort") word st) (other (codes "find") word fi) (other (codes "facet") word fa)
    (other (codes "query") word qu))

-- the shape that begins with a type's name
shape_of_name : (t : ColumnType) → find (λ shape. bytes_eq shape.0 (type_name t)) shapes ≡ Some (type_name t, value_line t)
shape_of_name types.i64 = refl
shape_of_name types.u64 = refl
shape_of_name types.bytes = refl
shape_of_name types.str = refl
shape_of_name types.bool = refl
shape_of_name types.ip = refl
shape_of_name types.datetime = refl

-- a line that begins with a type's name
pub line_of_value : (d : Data) (ds : List Data) (t : ColumnType) → as_type d ≡ Some t → line_among shapes (d ∷ ds) ≡ value_line t ds
line_of_value d ds t e = go (as_str d) e
  where
    go : (o : Option (List ℕ)) → (o >>= type_named) ≡ Some t
        → (o >>= λ word. find (λ shape. bytes_eq shape.0 word) shapes >>= λ shape. shape.1 ds) ≡ value_line t ds
    go None e = cc
    go (Some word) e =
        let same : type_name t ≡ word = (bytes_eq-Decides (type_name t) word).0
        (find-passes (λ t. bytes_eq (type_name t) word) all_types t e) in
        ap (λ w. find (λ shape. bytes_eq shape.0 w) shapes >>= λ shape. shape.1 ds) (sym same)
        ∙ ap (λ o. o >>= λ shape. shape.1 ds) (shape_of_name t)

-- behind items where none passes
find_front : {A : Type 0} (p : A → Bool) (xs ys : List A) → find p ys ≡ None → find p (xs ++ ys) ≡ find p xs
find_front p [] ys e = e
find_front p (x ∷ xs) ys e = ap (λ o. cond (p x) (Some x) o) (find_front p xs ys e)

-- the shapes of values
abbrev value_shape : ColumnType → List ℕ × (List Data → Option Line)
value_shape t = (type_name t, value_line t)

no_value_shape : (word : List ℕ) (ts : List ColumnType) → find (λ t. bytes_eq (type_name t) word) ts ≡ None
    → find (λ shape. bytes_eq shape.0 word) (map value_shape ts) ≡ None
no_value_shape word [] e = refl
no_value_shape word (t ∷ ts) e = go (bytes_eq (type_name t) word) e (no_value_shape word ts)
  where
    go : (b : Bool) → cond b (Some t) (find (λ t. bytes_eq (type_name t) word) ts) ≡ None
        → (find (λ t. bytes_eq (type_name t) word) ts ≡ None
        → find (λ shape. bytes_eq shape.0 word) (map value_shape ts) ≡ None)
        → cond b (Some (value_shape t)) (find (λ shape. bytes_eq shape.0 word) (map value_shape ts)) ≡ None
    go true e again = cc
    go false e again = again e

-- a line that begins with no type's name
pub line_of_control : (d : Data) (ds : List Data) → as_type d ≡ None → line_among shapes (d ∷ ds) ≡ line_among control_shapes (d ∷ ds)
line_of_control d ds e = go (as_str d) e
  where
    go : (o : Option (List ℕ)) → (o >>= type_named) ≡ None
        → (o >>= λ word. find (λ shape. bytes_eq shape.0 word) shapes >>= λ shape. shape.1 ds)
        ≡ (o >>= λ word. find (λ shape. bytes_eq shape.0 word) control_shapes >>= λ shape. shape.1 ds)
    go None e = refl
    go (Some word) e =
        ap (λ o. o >>= λ shape. shape.1 ds) (find_front (λ shape. bytes_eq shape.0 word) control_shapes
        (map value_shape all_types) (no_value_shape word all_types e))
