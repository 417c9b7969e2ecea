-- The words that a set's lines begin with, and lines that other scripts have too.
use Rattle.std.proofs.Common.{◌≡◌, ℕ, Bool, true, false, cond, List, [], ◌∷◌, Option, Some, None, refl, sym, ◌∙◌, ap, bytes_eq}
use Rattle.std.specs.Prelude.{find, codes}
use Rattle.std.specs.Str.{is_utf8}
use Rattle.std.proofs.lemmas.Slice.Eq.{bytes_eq-Decides}
use Rattle.serde_json.specs.Data.{Data}
use Rattle.serde_json.specs.Read.{read}
use Rattle.serde_json.specs.Find.{as_str}
use Rattle.col_common.specs.Reading.{◌>>=◌, only_if}
use Rattle.col_program.specs.Script.{Line, shapes, line_among, line_spelled, line_spelled_by, find_line}
use Rattle.col_program.specs.Values.{as_list, as_u32, as_type, as_cell}
use Rattle.col_questions.proofs.WordLemmas.{other}
use Rattle.col_set_script.specs.SetScripts.{SetLine, SetShape, of_line, drop_line, compact_line, look_line, set_shapes, line_shaped, set_line_among, set_line_spelled}

-- none of three
none_of_three : {A : Type 0} (p : A → Bool) (a b c : A) → p a ≡ false → p b ≡ false → p c ≡ false
    → find p (a ∷ b ∷ c ∷ []) ≡ None
none_of_three p a b c ha hb hc = rw (ha, hb, hc) refl

-- a line that begins with none of a set's own words
pub other_line : (d : Data) (ds : List Data) (word : List ℕ) → as_str d ≡ Some word
    → (word ≡ codes "drop" → ⊥) → (word ≡ codes "compact" → ⊥) → (word ≡ codes "find" → ⊥)
    → set_line_among (d ∷ ds) ≡ (line_among shapes (d ∷ ds) >>= of_line)
other_line d ds word s dr co fi =
    ap (λ o. o >>= λ word. line_shaped (find (λ shape. bytes_eq shape.0 word) set_shapes) d ds) s
    ∙ ap (λ o. line_shaped o d ds) (none_of_three {A = SetShape} (λ shape. bytes_eq shape.0 word)
    (codes "drop", drop_line) (codes "compact", compact_line) (codes "find", look_line)
    (other (codes "drop") word dr) (other (codes "compact") word co) (other (codes "find") word fi))

-- ---- lines that other scripts have

-- what is made of a part is no line of a segment
no_line : {A : Type 0} (o : Option A) (f : A → Option Line) → ((x : A) → (f x >>= of_line) ≡ None) → (o >>= f >>= of_line) ≡ None
no_line None f h = refl
no_line (Some x) f h = h x

-- a lookup of other scripts is no line of a segment
no_find : (n t lo hi from to : Data) → (find_line (n ∷ t ∷ lo ∷ hi ∷ from ∷ to ∷ []) >>= of_line) ≡ None
no_find n t lo hi from to =
    no_line (as_str n) _ (λ name. no_line (as_type t) _ (λ t. no_line (as_cell t lo) _ (λ l. no_line (as_cell t hi) _
    (λ h. no_line (as_u32 from) _ (λ f. no_line (as_u32 to) _ (λ g. refl))))))

-- lookups of other scripts are none of a set's
no_look : (ds : List Data) (m : Line) → find_line ds ≡ Some m → look_line ds ≡ of_line m
no_look (n ∷ t ∷ lo ∷ hi ∷ []) m e = cc
no_look (n ∷ t ∷ lo ∷ hi ∷ from ∷ to ∷ []) m e = sym (no_find n t lo hi from to) ∙ ap (λ o. o >>= of_line) e
no_look _ m e = cc

module _ (d : Data) (ds : List Data) (m : Line) (whole : line_among shapes (d ∷ ds) ≡ Some m) where
  -- what other scripts make of a word
  abbrev with_word : List ℕ → Option Line
  with_word word = find (λ shape. bytes_eq shape.0 word) shapes >>= λ shape. shape.1 ds

  -- the line of a word, by which of a set's own it is
  by_word : (word : List ℕ) (a b c : Bool) → bytes_eq (codes "drop") word ≡ a → bytes_eq (codes "compact") word ≡ b
      → bytes_eq (codes "find") word ≡ c → with_word word ≡ Some m
      → line_shaped (cond a (Some (codes "drop", drop_line)) (cond b (Some (codes "compact", compact_line))
      (cond c (Some (codes "find", look_line)) None))) d ds ≡ of_line m
  by_word word true b c ea eb ec e =
      let gone : None ≡ Some m = ap with_word ((bytes_eq-Decides (codes "drop") word).0 ea) ∙ e in cc
  by_word word false true c ea eb ec e =
      let gone : None ≡ Some m = ap with_word ((bytes_eq-Decides (codes "compact") word).0 eb) ∙ e in cc
  by_word word false false true ea eb ec e =
      no_look ds m (ap with_word ((bytes_eq-Decides (codes "find") word).0 ec) ∙ e)
  by_word word false false false ea eb ec e = ap (λ o. o >>= of_line) whole

  -- the line of an array that other scripts have
  same_line : set_line_among (d ∷ ds) ≡ of_line m
  same_line = go (as_str d) whole
    where
      go : (o : Option (List ℕ)) → (o >>= with_word) ≡ Some m
          → (o >>= λ word. line_shaped (find (λ shape. bytes_eq shape.0 word) set_shapes) d ds) ≡ of_line m
      go None e = cc
      go (Some word) e = by_word word _ _ _ refl refl refl e

-- a piece that other scripts have
pub same_spelled : (piece : List ℕ) (m : Line) → line_spelled piece ≡ Some m → set_line_spelled piece ≡ of_line m
unfolding line_spelled_by set_line_spelled
same_spelled piece m e = go (only_if (is_utf8 piece) piece >>= read >>= as_list) e
  where
    go : (o : Option (List Data)) → (o >>= line_among shapes) ≡ Some m → (o >>= set_line_among) ≡ of_line m
    go None e = cc
    go (Some []) e = cc
    go (Some (d ∷ ds)) e = same_line d ds m e
