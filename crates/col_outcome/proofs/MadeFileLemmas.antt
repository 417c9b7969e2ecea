-- What is made of the items of a list, one by one.
use Rattle.std.proofs.Common.{◌≡◌, ◌<◌, ◌≤◌, ℕ, suc, List, [], ◌∷◌, ◌++◌, take, drop, get_or, length, Result, Ok, Err, inl, inr, refl, sym, ap, ◌∙◌}
use Rattle.std.specs.List.{AllZip}
use Rattle.std.proofs.Math.Seq.{take-suc}
use Rattle.std.proofs.lemmas.List.{take_all}
use Rattle.col_common.specs.declared.error.ColumnarError.{ColumnarError}
use Rattle.col_writer_file.proofs.EachLemmas.{whole-at, each-stopped}
use Rattle.col_model.specs.Refusal.{Refusal, each_ok}
use Rattle.col_model.proofs.RefusalLaws.{each-push}
use Rattle.col_model.proofs.ListLaws.{zip-more}
use Rattle.col_writer_columns.specs.Answers.{MayRefuse}
use Rattle.col_outcome.specs.Making.{Makes}

-- what was made of the items up to a place
pub record HaveMade {S A B : Type 0} (R : A → B → Type 0) (f : S → Result A Refusal) (xs : List S) (i : ℕ) (bs : List B) : Type 0 where
  pub values : List A
  pub are : each_ok f (take i xs) ≡ Ok values
  pub all : AllZip R values bs

-- before the first item nothing is made
pub made-none : {S A B : Type 0} (R : A → B → Type 0) (f : S → Result A Refusal) (xs : List S) (bs : List B)
    → bs ≡ [] → HaveMade R f xs 0 bs
made-none R f xs bs none = record { values = []; are = refl; all = rw none tt }

-- what is made of the next item, put behind the rest, makes one item more
pub made-more : {S A B : Type 0} (R : A → B → Type 0) (f : S → Result A Refusal) (xs : List S) (i j : ℕ) (d : S)
    (bs more : List B) (b : B) → HaveMade R f xs i bs → i < length xs → j ≡ suc i
    → Makes R (Ok b) (f (get_or xs i d)) → more ≡ bs ++ b ∷ [] → HaveMade R f xs j more
made-more {A = A} R f xs i j d bs more b have within step makes grown = by makes.ok
  where
    by : ((a : A) × (f (get_or xs i d) ≡ Ok a) × R a b) → HaveMade R f xs j more
    by (a, at, is) = record {
      values = have.values ++ a ∷ [];
      are =
          ap (λ n. each_ok f (take n xs)) step ∙ ap (each_ok f) (take-suc xs i d within)
          ∙ each-push f (take i xs) (get_or xs i d) have.values a have.are at;
      all = rw grown (zip-more R have.values bs a b have.all is);
    }

-- a refusal of the next item is that of all
pub made-refused : {S A B V : Type 0} (R : A → B → Type 0) (IsOf : List A → V → Type 0) (f : S → Result A Refusal)
    (xs : List S) (i : ℕ) (d : S) (bs : List B) (e : ColumnarError) → HaveMade R f xs i bs → i < length xs
    → Makes R (Err e) (f (get_or xs i d)) → Makes IsOf (Err e) (each_ok f xs)
made-refused R IsOf f xs i d bs e have within makes = record { ok = tt; refused = by makes.refused }
  where
    by : MayRefuse (f (get_or xs i d)) e → MayRefuse (each_ok f xs) e
    by (inl memory) = inl memory
    by (inr (r, at, answer)) =
        inr (
          r,
          ap (each_ok f) (whole-at xs i d within)
              ∙ each-stopped f (take i xs) (get_or xs i d) (drop (suc i) xs) have.values r have.are at,
          answer,
        )

-- where no item is left, all are made
pub made-all : {S A B V : Type 0} (R : A → B → Type 0) (view : V → List B) (f : S → Result A Refusal) (xs : List S)
    (i : ℕ) (v : V) → HaveMade R f xs i (view v) → length xs ≤ i
    → Makes (λ values w. AllZip R values (view w)) (Ok v) (each_ok f xs)
made-all R view f xs i v have whole = record {
  ok = (have.values, ap (each_ok f) (sym (take_all i xs whole)) ∙ have.are, have.all);
  refused = tt;
}
