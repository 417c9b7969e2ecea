-- Lines that are taken one behind another.
use Rattle.std.proofs.Common.{◌≡◌, ◌+◌, ◌<◌, ◌≤◌, ◌^◌, ℕ, suc, Bool, true, false, List, [], ◌∷◌, ◌++◌, length, Result, Ok, Err, refl, sym, ap, ◌∙◌, arith, append-nil, append_assoc, if◌then◌else◌, cond}
use Rattle.std.specs.Prelude.{nat_le}
use Rattle.std.specs.List.{count_by}
use Rattle.std.proofs.lemmas.Bool.Decides.{nat_tests}
use Rattle.std.proofs.lemmas.List.Sums.{sum_by_push}
use Rattle.col_documents.specs.Documents.{Fields, Refusal, fields_of}
use Rattle.col_documents.specs.Forms.{Forms}
use Rattle.col_load.specs.Loads.{Document, Stop, bad_line, too_many, is_blank, is_bad, is_refused, document_in, line_documents, both, documents_from}

-- ---- one line

module _ (forms : Forms) (skips : Bool) (number : ℕ) (line : List ℕ) (fits : number < 2 ^ 64) where
  counted : (other : Result (List Document) Stop) → (if nat_le (2 ^ 64) number then Err too_many else other) ≡ other
  counted other =
      let small : nat_le (2 ^ 64) number ≡ false = grind (arith, nat_tests) in
      ap (λ b. if b then Err too_many else other) small

  pub line_blank : is_blank line ≡ true → line_documents forms skips number line ≡ Ok []
  line_blank blank =
      counted (if is_blank line then Ok [] else document_in skips number (fields_of forms line))
      ∙ ap (λ b. if b then Ok [] else document_in skips number (fields_of forms line)) blank

  pub line_full : (fields : Fields) → is_blank line ≡ false → fields_of forms line ≡ fields
      → line_documents forms skips number line ≡ document_in skips number fields
  line_full fields blank is =
      counted (if is_blank line then Ok [] else document_in skips number (fields_of forms line))
      ∙ ap (λ b. if b then Ok [] else document_in skips number (fields_of forms line)) blank ∙ ap (document_in skips number) is

-- a line whose number 64 bits don't hold
pub line_far : (forms : Forms) (skips : Bool) (number : ℕ) (line : List ℕ) → 2 ^ 64 ≤ number
    → line_documents forms skips number line ≡ Err too_many
line_far forms skips number line far =
    let large : nat_le (2 ^ 64) number ≡ true = grind (arith, nat_tests) in
    ap (λ b. if b then Err too_many else (if is_blank line then Ok [] else document_in skips number (fields_of forms line))) large

-- a bad line that is skipped, or isn't
pub bad_in : (skips : Bool) (number : ℕ) (r : Refusal) → skips ≡ true → document_in skips number (Err r) ≡ Ok []
bad_in skips number r is = ap (λ b. document_in b number (Err r)) is

pub bad_out : (skips : Bool) (number : ℕ) (r : Refusal) → skips ≡ false → document_in skips number (Err r) ≡ Err (bad_line number r)
bad_out skips number r is = ap (λ b. document_in b number (Err r)) is

-- whether a line is bad
pub bad_blank : (forms : Forms) (line : List ℕ) → is_blank line ≡ true → is_bad forms line ≡ false
bad_blank forms line blank = ap (λ b. if b then false else is_refused (fields_of forms line)) blank

pub bad_full : (forms : Forms) (line : List ℕ) (fields : Fields) → is_blank line ≡ false → fields_of forms line ≡ fields
    → is_bad forms line ≡ is_refused fields
bad_full forms line fields blank is =
    ap (λ b. if b then false else is_refused (fields_of forms line)) blank ∙ ap is_refused is

-- ---- lines behind others

-- how many lines are bad, with a line more
pub bad_more : (forms : Forms) (lines : List (List ℕ)) (line : List ℕ) (bad : Bool) → is_bad forms line ≡ bad
    → count_by (is_bad forms) (lines ++ line ∷ []) ≡ (if bad then count_by (is_bad forms) lines + 1 else count_by (is_bad forms) lines)
bad_more forms lines line true is =
    sum_by_push (λ l. cond (is_bad forms l) 1 0) lines line ∙ ap (λ b. count_by (is_bad forms) lines + cond b 1 0) is
bad_more forms lines line false is =
    let none : count_by (is_bad forms) lines + 0 ≡ count_by (is_bad forms) lines = omega arith in
    sum_by_push (λ l. cond (is_bad forms l) 1 0) lines line ∙ ap (λ b. count_by (is_bad forms) lines + cond b 1 0) is ∙ none

both-both : (a b c : Result (List Document) Stop) → both a (both b c) ≡ both (both a b) c
both-both (Ok ds) (Ok es) (Ok fs) = ap Ok (sym (append_assoc ds es fs))
both-both (Ok ds) (Ok es) (Err e) = refl
both-both (Ok ds) (Err e) c = refl
both-both (Err e) b c = refl

module _ (forms : Forms) (skips : Bool) where
  behind : (n : ℕ) (ls ms : List (List ℕ)) → documents_from forms skips n (ls ++ ms)
      ≡ both (documents_from forms skips n ls) (documents_from forms skips (n + length ls) ms)
  behind n [] ms =
      let here : n ≡ n + 0 = omega arith in
      again (documents_from forms skips n ms) ∙ ap (λ k. both (Ok []) (documents_from forms skips k ms)) here
    where
      again : (r : Result (List Document) Stop) → r ≡ both (Ok []) r
      again (Ok ds) = refl
      again (Err e) = refl
  behind n (l ∷ ls) ms =
      let next : n + 1 + length ls ≡ n + suc (length ls) = omega arith in
      ap (both (line_documents forms skips n l)) (behind (n + 1) ls ms)
      ∙ both-both (line_documents forms skips n l) (documents_from forms skips (n + 1) ls)
      (documents_from forms skips (n + 1 + length ls) ms)
      ∙ ap (λ k. both (both (line_documents forms skips n l) (documents_from forms skips (n + 1) ls))
      (documents_from forms skips k ms)) next

  -- a line more, which has these documents
  pub lines_more : (ls : List (List ℕ)) (line : List ℕ) (docs more : List Document) (number : ℕ) → number ≡ length ls + 1
      → documents_from forms skips 1 ls ≡ Ok docs → line_documents forms skips number line ≡ Ok more
      → documents_from forms skips 1 (ls ++ line ∷ []) ≡ Ok (docs ++ more)
  lines_more ls line docs more number is had read =
      let place : 1 + length ls ≡ number = omega (arith, is) in
      behind 1 ls (line ∷ []) ∙ ap (λ r. both r (documents_from forms skips (1 + length ls) (line ∷ []))) had
      ∙ ap (λ k. both (Ok docs) (both (line_documents forms skips k line) (Ok []))) place
      ∙ ap (λ r. both (Ok docs) (both r (Ok []))) read ∙ ap (λ es. Ok (docs ++ es)) (append-nil more)

  -- a line that stops
  pub lines_stop : (ls : List (List ℕ)) (line : List ℕ) (rest : List (List ℕ)) (docs : List Document) (stop : Stop) (number : ℕ)
      → number ≡ length ls + 1 → documents_from forms skips 1 ls ≡ Ok docs → line_documents forms skips number line ≡ Err stop
      → documents_from forms skips 1 (ls ++ line ∷ rest) ≡ Err stop
  lines_stop ls line rest docs stop number is had read =
      let place : 1 + length ls ≡ number = omega (arith, is) in
      behind 1 ls (line ∷ rest) ∙ ap (λ r. both r (documents_from forms skips (1 + length ls) (line ∷ rest))) had
      ∙ ap (λ k. both (Ok docs) (both (line_documents forms skips k line) (documents_from forms skips (1 + length ls + 1) rest))) place
      ∙ ap (λ r. both (Ok docs) (both r (documents_from forms skips (1 + length ls + 1) rest))) read
