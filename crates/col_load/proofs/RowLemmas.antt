-- Documents that are recorded one behind another.
use Rattle.std.proofs.Common.{◌≡◌, ◌+◌, ◌<◌, ◌≤◌, ℕ, suc, true, false, List, [], ◌∷◌, ◌++◌, length, Option, Some, None, Result, Ok, Err, refl, sym, ap, ◌∙◌, subst, arith, append-nil, append_assoc, ◌⊎◌, inl, inr}
use Rattle.std.specs.Prelude.{nat_lt, is_some}
use Rattle.std.proofs.lemmas.Bool.{cases_lt}
use Rattle.std.proofs.lemmas.Bool.Decides.{nat_tests}
use Rattle.std.proofs.lemmas.List.{length-append}
use Rattle.col_common.specs.declared.error.ColumnarError.{ColumnarError}
use Rattle.col_model.specs.Recording.{Call, content_after, content_after_all}
use Rattle.col_model.specs.Refusal.{Refusal, ◌>>=◌}
use Rattle.col_model.specs.Written.{Recorded}
use Rattle.col_load.specs.Loads.{Document, calls_at, calls_from, max_documents}
use Rattle.col_load.specs.Rows.{IsRecorded, HasDocuments}
use Rattle.col_load.specs.declared.rows.Rows.{Rows}

-- calls behind others
after-both : (w : Recorded) (cs ds : List Call)
    → content_after_all w (cs ++ ds) ≡ (content_after_all w cs >>= λ v. content_after_all v ds)
after-both w [] ds = refl
after-both w (c ∷ cs) ds = by (content_after w c) (λ v. after-both v cs ds)
  where
    by : (r : Result Recorded Refusal)
        → ((v : Recorded) → content_after_all v (cs ++ ds) ≡ (content_after_all v cs >>= λ v. content_after_all v ds))
        → (r >>= λ v. content_after_all v (cs ++ ds)) ≡ ((r >>= λ v. content_after_all v cs) >>= λ v. content_after_all v ds)
    by (Ok v) same = same v
    by (Err e) same = refl

-- behind calls that were all made
pub made_behind : (w v : Recorded) (e : Option ColumnarError) (old : Option ColumnarError) (calls more : List Call) → is_some old ≡ false
    → IsRecorded v w e more → IsRecorded [] v old calls → IsRecorded [] w e (calls ++ more)
made_behind w v None None calls more none new was =
    after-both [] calls more ∙ ap (λ r. r >>= λ v. content_after_all v more) was ∙ new
made_behind w v (Some e) None calls more none (refusal, is, answer) was =
    (refusal, after-both [] calls more ∙ ap (λ r. r >>= λ v. content_after_all v more) was ∙ is, answer)
made_behind w v e (Some old) calls more none new was = cc none

-- behind one that was refused
pub refused_behind : (w : Recorded) (e : Option ColumnarError) (calls more : List Call) → is_some e ≡ true
    → IsRecorded [] w e calls → IsRecorded [] w e (calls ++ more)
refused_behind w None calls more some was = cc some
refused_behind w (Some e) calls more some (refusal, is, answer) =
    (refusal, after-both [] calls more ∙ ap (λ r. r >>= λ v. content_after_all v more) is, answer)

-- the calls of one document more
calls-more : (d : ℕ) (docs : List Document) (doc : Document)
    → calls_from d (docs ++ doc ∷ []) ≡ calls_from d docs ++ calls_at (d + length docs) doc
calls-more d [] doc =
    let here : d + 0 ≡ d = omega arith in
    append-nil (calls_at d doc) ∙ ap (λ k. calls_at k doc) (sym here)
calls-more d (x ∷ docs) doc =
    let next : d + 1 + length docs ≡ d + suc (length docs) = omega arith in
    ap (λ cs. calls_at d x ++ cs) (calls-more (d + 1) docs doc)
    ∙ sym (append_assoc (calls_at d x) (calls_from (d + 1) docs) (calls_at (d + 1 + length docs) doc))
    ∙ ap (λ k. (calls_at d x ++ calls_from (d + 1) docs) ++ calls_at k doc) next

-- one document more
pub document_taken : (docs : List Document) (doc : Document) (old new : Rows) → HasDocuments docs old → (old.num_docs ≡ max_documents → ⊥)
    → ((calls : List Call) → IsRecorded [] old.columns old.refusal calls
    → IsRecorded [] new.columns new.refusal (calls ++ calls_at old.num_docs doc))
    → new.too_many ≡ old.too_many → new.num_docs ≡ old.num_docs + 1 → HasDocuments (docs ++ doc ∷ []) new
document_taken docs doc old new had room record-behind same more = by (cases_lt (length docs) max_documents)
  where
    longer : length (docs ++ doc ∷ []) ≡ length docs + 1
    longer = length-append docs (doc ∷ [])

    by : (length docs < max_documents) ⊎ (max_documents ≤ length docs) → HasDocuments (docs ++ doc ∷ []) new
    by (inr le) = absurd (room (omega (arith, had.count, le)))
    by (inl lt) =
        let few : old.num_docs ≡ length docs = omega (arith, had.count, lt) in
        let place : old.num_docs ≡ 0 + length docs = omega (arith, few) in
        let none : nat_lt max_documents (length docs) ≡ false = grind (arith, nat_tests) in
        let none' : nat_lt max_documents (length (docs ++ doc ∷ [])) ≡ false = grind (arith, nat_tests, longer, lt) in
        record {
          full = same ∙ had.full ∙ none ∙ sym none';
          count = omega (arith, more, few, longer, lt);
          content = λ le. subst (IsRecorded [] new.columns new.refusal)
              (ap (λ k. calls_from 0 docs ++ calls_at k doc) place ∙ sym (calls-more 0 docs doc))
              (record-behind (calls_from 0 docs) (had.content (omega (arith, lt))));
        }
