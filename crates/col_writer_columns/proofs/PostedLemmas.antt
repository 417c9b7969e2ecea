-- Values beside their documents, with one more.
use Rattle.std.proofs.Common.{◌≡◌, ◌<◌, ◌≤◌, ℕ, suc, ◌-◌, ◌^◌, List, [], ◌∷◌, ◌++◌, length, Bool, true, false, Result, Ok, Err, refl, sym, ◌∙◌, ap, arith, inr, le-leb, length-append}
use Rattle.std.specs.Prelude.{nat_le, map, is_err, OnOk}
use Rattle.std.specs.List.{zip}
use Rattle.std.proofs.lemmas.Slice.Zip.{firsts-zip}
use Rattle.std.proofs.lemmas.List.{length-map}
use Rattle.col_common.specs.declared.error.ColumnarError.TheVariants as answers
use Rattle.col_model.specs.Refusal.{◌>>=◌, refuse_if, doc_order, too_large}
use Rattle.col_writer_rows.specs.Documents.{is_late_doc, docs_of}
use Rattle.col_writer_columns.specs.Posted.{posted_after}
use Rattle.col_writer_columns.specs.Answers.{RecordsOrRefuses}

-- pairs of two lists with an item more each are the pairs of the lists, and one pair more
pub zip-push : {A B : Type 0} (ks : List A) (vs : List B) (k : A) (v : B) → length ks ≡ length vs
    → zip (ks ++ k ∷ []) (vs ++ v ∷ []) ≡ zip ks vs ++ (k, v) ∷ []
zip-push [] [] k v e = refl
zip-push [] (w ∷ vs) k v e = absurd (omega arith)
zip-push (l ∷ ks) [] k v e = absurd (omega arith)
zip-push (l ∷ ks) (w ∷ vs) k v e = let same : length ks ≡ length vs = omega arith in ap (λ r. (l, w) ∷ r) (zip-push ks vs k v same)

-- the documents of the pairs are those that stand beside the values
pub docs-zip : {X : Type 0} (docs : List ℕ) (vs : List X) (ps : List (ℕ × X)) → zip docs vs ≡ ps
    → length docs ≡ length vs → docs_of ps ≡ docs
docs-zip docs vs ps is e = ap docs_of (sym is) ∙ firsts-zip docs vs (sym e)

-- there are as many pairs as documents
pub length-zip : {X : Type 0} (docs : List ℕ) (vs : List X) → length docs ≡ length vs → length (zip docs vs) ≡ length vs
length-zip [] [] e = refl
length-zip [] (w ∷ vs) e = absurd (omega arith)
length-zip (l ∷ ks) [] e = absurd (omega arith)
length-zip (l ∷ ks) (w ∷ vs) e = let same : length ks ≡ length vs = omega arith in ap suc (length-zip ks vs same)

-- the three ways of a record
pub posted-late : {X : Type 0} (ps : List (ℕ × X)) (docs : List ℕ) (d : ℕ) (x : X) → docs_of ps ≡ docs
    → is_late_doc docs d ≡ true → posted_after ps d x ≡ Err doc_order
unfolding posted_after
posted-late ps docs d x is late =
    ap (λ b. refuse_if b doc_order >>=
    λ _. refuse_if (nat_le (2 ^ 32 - 1) (length ps)) too_large >>= λ _. Ok (ps ++ (d, x) ∷ []))
    (ap (λ r. is_late_doc r d) is ∙ late)

behind : {X : Type 0} (ps : List (ℕ × X)) (docs : List ℕ) (d : ℕ) (x : X) → docs_of ps ≡ docs
    → is_late_doc docs d ≡ false
    → posted_after ps d x ≡ (refuse_if (nat_le (2 ^ 32 - 1) (length ps)) too_large >>= λ _. Ok (ps ++ (d, x) ∷ []))
unfolding posted_after
behind ps docs d x is late =
    ap (λ b. refuse_if b doc_order >>=
    λ _. refuse_if (nat_le (2 ^ 32 - 1) (length ps)) too_large >>= λ _. Ok (ps ++ (d, x) ∷ []))
    (ap (λ r. is_late_doc r d) is ∙ late)

pub posted-full : {X : Type 0} (ps : List (ℕ × X)) (docs : List ℕ) (d : ℕ) (x : X) → docs_of ps ≡ docs
    → is_late_doc docs d ≡ false → 2 ^ 32 - 1 ≤ length ps → posted_after ps d x ≡ Err too_large
posted-full ps docs d x is late full =
    let b : nat_le (2 ^ 32 - 1) (length ps) ≡ true = le-leb _ _ full in
    behind ps docs d x is late ∙ ap (λ b. refuse_if b too_large >>= λ _. Ok (ps ++ (d, x) ∷ [])) b

pub posted-more : {X : Type 0} (ps : List (ℕ × X)) (docs : List ℕ) (d : ℕ) (x : X) → docs_of ps ≡ docs
    → is_late_doc docs d ≡ false → length ps < 2 ^ 32 - 1 → posted_after ps d x ≡ Ok (ps ++ (d, x) ∷ [])
posted-more ps docs d x is late few =
    let b : nat_le (2 ^ 32 - 1) (length ps) ≡ false = grind arith in
    behind ps docs d x is late ∙ ap (λ b. refuse_if b too_large >>= λ _. Ok (ps ++ (d, x) ∷ [])) b

-- a late document is refused as out of order, and changes nothing
pub answers-late : {X : Type 0} (docs : List ℕ) (vs : List X) (ps : List (ℕ × X)) (d : ℕ) (x : X) → zip docs vs ≡ ps
    → length docs ≡ length vs → is_late_doc docs d ≡ true
    → RecordsOrRefuses ps ps (Err answers.DocOrder) (posted_after ps d x)
answers-late docs vs ps d x is e late =
    record {
      ok = tt;
      refused = inr (doc_order, posted-late ps docs d x (docs-zip docs vs ps is e) late, refl);
      kept = refl;
    }

-- a document in order, behind 2 ^ 32 - 1 values, is refused as too large, and changes nothing
pub answers-full : {X : Type 0} (docs : List ℕ) (vs : List X) (ps : List (ℕ × X)) (d : ℕ) (x : X) → zip docs vs ≡ ps
    → length docs ≡ length vs → is_late_doc docs d ≡ false → 2 ^ 32 - 1 ≤ length vs
    → RecordsOrRefuses ps ps (Err answers.TooLarge) (posted_after ps d x)
answers-full docs vs ps d x is e late full =
    let many : length ps ≡ length vs = ap length (sym is) ∙ length-zip docs vs e in
    record { ok = tt; refused = inr (too_large, posted-full ps docs d x (docs-zip docs vs ps is e) late (omega arith), refl); kept = refl }

-- a document in order and its value are put at the ends, while there is room
pub answers-more : {X : Type 0} (docs docs' : List ℕ) (vs vs' : List X) (ps : List (ℕ × X)) (d : ℕ) (x : X)
    → zip docs vs ≡ ps → length docs ≡ length vs → is_late_doc docs d ≡ false → length vs < 2 ^ 32 - 1
    → docs' ≡ docs ++ d ∷ [] → vs' ≡ vs ++ x ∷ [] → RecordsOrRefuses ps (zip docs' vs') (Ok tt) (posted_after ps d x)
answers-more docs docs' vs vs' ps d x is e late few ds xs =
    let many : length ps ≡ length vs = ap length (sym is) ∙ length-zip docs vs e in
    let now : zip docs' vs' ≡ ps ++ (d, x) ∷ [] = ap (λ r. zip r vs') ds ∙ ap (zip (docs ++ d ∷ [])) xs
    ∙ zip-push docs vs d x e ∙ ap (λ r. r ++ (d, x) ∷ []) is in
    record { ok = posted-more ps docs d x (docs-zip docs vs ps is e) late (omega arith) ∙ ap Ok (sym now); refused = tt; kept = tt }

-- what a call's Ok says, where it isn't refused
pub when_ok : {A E P : Type 0} (r : Result A E) (b : Bool) → b ≡ is_err r → b ≡ false → OnOk r P → P
when_ok (Ok x) b e f p = p
when_ok (Err x) b e f p = absurd (grind arith)

-- two lists stay as long as each other
pub both_more : {A B : Type 0} (xs xs' : List A) (ys ys' : List B) (x : A) (y : B) → length xs ≡ length ys
    → xs' ≡ xs ++ x ∷ [] → ys' ≡ ys ++ y ∷ [] → length xs' ≡ length ys'
both_more xs xs' ys ys' x y e more also =
    omega (arith, e, ap length more, ap length also, length-append xs (x ∷ []), length-append ys (y ∷ []))

-- as many values as there are beside documents
pub as_many : {X : Type 0} (ps : List (ℕ × X)) (vs : List X) → vs ≡ map (λ p. p.1) ps → length ps ≡ length vs
as_many ps vs is = sym (length-map ps (λ p. p.1)) ∙ sym (ap length is)
