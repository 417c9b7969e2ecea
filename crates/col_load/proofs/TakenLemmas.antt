-- What taking a line leaves of a loader.
use Rattle.std.proofs.Common.{◌≡◌, ◌+◌, ◌≤◌, ℕ, Bool, List, [], ◌∷◌, ◌++◌, length, Ok, Err, sym, ap, ◌∙◌, arith, append-nil, subst, ◌<◌, ◌^◌, ◌⊎◌, inl, inr, if◌then◌else◌}
use Rattle.std.proofs.lemmas.Bool.{cases_lt}
use Rattle.std.proofs.lemmas.List.{length-append}
use Rattle.col_load.specs.Loads.{Document, Stop, is_bad, line_documents, documents_from, counts_of_lines}
use Rattle.col_load.specs.Loading.{TakesLine, forms_of, IsStop}
use Rattle.col_load.specs.Rows.{HasDocuments}
use Rattle.col_load.specs.declared.load_error.LoadError.{LoadError}
use Rattle.col_load.specs.declared.loader.Loader.{Loader}
use Rattle.col_load.specs.declared.rows.Rows.{Rows}
use Rattle.col_load.proofs.LineLemmas.{bad_more, lines_more, lines_stop}

-- A loader after a line that is bad or isn't: the same but for what it counts and has.
pub record Follows (line : List ℕ) (bad : Bool) (old new : Loader) : Type 0 where
  pub forms : forms_of new ≡ forms_of old
  pub skips : new.skips ≡ old.skips
  pub is : is_bad (forms_of old) line ≡ bad
  pub counts : new.counts ≡ (old.counts.0 + 1, if bad then old.counts.1 + 1 else old.counts.1)
  pub fits : old.counts.0 + 1 < 2 ^ 64

-- a line with these documents
module _ (line : List ℕ) (bad : Bool) (old new : Loader) (more : List Document) (f : Follows line bad old new) where
  counts-after : (lines : List (List ℕ)) → old.counts ≡ counts_of_lines (forms_of old) lines
      → new.counts ≡ counts_of_lines (forms_of new) (lines ++ line ∷ [])
  counts-after lines was =
      let all : length lines + 1 ≡ length (lines ++ line ∷ []) = sym (length-append lines (line ∷ [])) in
      let some = sym (bad_more (forms_of old) lines line bad f.is) in
      f.counts ∙ ap (λ p. (p.0 + 1, if bad then p.1 + 1 else p.1)) was ∙ (λ i. (all i, some i))
      ∙ ap (λ fs. counts_of_lines fs (lines ++ line ∷ [])) (sym f.forms)

  pub line_taken : line_documents (forms_of old) old.skips (old.counts.0 + 1) line ≡ Ok more
      → ((docs : List Document) → HasDocuments docs old.rows → HasDocuments (docs ++ more) new.rows) → TakesLine line old new (Ok tt)
  line_taken read had = record {
    taken = λ lines was.
        record {
          docs = was.docs ++ more;
          read = ap (λ fs. documents_from fs new.skips 1 (lines ++ line ∷ [])) f.forms
              ∙ ap (λ b. documents_from (forms_of old) b 1 (lines ++ line ∷ [])) f.skips
              ∙ lines_more (forms_of old) old.skips lines line was.docs more (old.counts.0 + 1)
              (ap (λ p. p.0 + 1) was.counts) was.read read;
          rows = had was.docs was.rows;
          counts = counts-after lines was.counts;
        };
    forms = (f.forms, f.skips);
    more = (ap (λ p. p.0) f.counts, subst (λ n. n < 2 ^ 64) (sym (ap (λ p. p.0) f.counts)) f.fits);
    stopped = tt;
  }

-- a line that stops
pub line_stopped : (line : List ℕ) (old new : Loader) (e : LoadError) (stop : Stop)
    → line_documents (forms_of old) old.skips (old.counts.0 + 1) line ≡ Err stop
    → ((lines : List (List ℕ)) → documents_from (forms_of old) old.skips 1 lines ≡ Err stop
    → IsStop e (documents_from (forms_of old) old.skips 1 lines))
    → TakesLine line old new (Err e)
line_stopped line old new e stop read is = record {
  taken = tt;
  forms = tt;
  more = tt;
  stopped = λ lines rest was. is (lines ++ line ∷ rest)
      (lines_stop (forms_of old) old.skips lines line rest was.docs stop (old.counts.0 + 1) (ap (λ p. p.0 + 1) was.counts) was.read read);
}

-- no document more
pub none_more : (rows : Rows) (docs : List Document) → HasDocuments docs rows → HasDocuments (docs ++ []) rows
none_more rows docs had = subst (λ ds. HasDocuments ds rows) (sym (append-nil docs)) had

-- a number of 64 bits that isn't the last one
pub not_last : (n m : ℕ) → m ≡ n → m < 2 ^ 64 → (m ≡ 18446744073709551615 → ⊥) → n + 1 < 2 ^ 64
not_last n m is fits other = by (cases_lt m 18446744073709551615)
  where
    by : (m < 18446744073709551615) ⊎ (18446744073709551615 ≤ m) → n + 1 < 2 ^ 64
    by (inl lt) = omega (arith, is, lt)
    by (inr le) = absurd (other (omega (arith, fits, le)))
