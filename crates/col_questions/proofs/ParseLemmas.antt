-- Lists of queries in JSON, one item after another.
use Rattle.std.proofs.Common.{◌≡◌, ℕ, zero, suc, ◌+◌, ◌<◌, ◌≤◌, List, [], ◌∷◌, ◌++◌, length, get_or, take, map, Option, Some, None, IsSomeAnd, Result, Ok, Err, OnOk, refl, sym, ap, ◌∙◌, subst, arith}
use Rattle.std.proofs.lemmas.List.{take_more, map-append}
use Rattle.serde_json.specs.Data.{Data}
use Rattle.serde_json.specs.View.{view, items_of, items_view}
use Rattle.serde_json.specs.declared.value.Value.{Value}
use Rattle.col_common.specs.Reading.{◌>>=◌}
use Rattle.col_program.specs.Queries.{Query, none_of, Queries, no_queries, query, query_of, query_in, members_of, queries_of, joined_of}
use Rattle.col_questions.specs.Steps.{queries_with, of_joint, PutsQuery, PutsMembers}
use Rattle.col_questions.specs.declared.step.Joint.{Joint}
use Rattle.col_questions.specs.declared.step.Step.{Step}
use Rattle.col_questions.specs.declared.step.Step.TheVariants as steps
use Rattle.col_questions.proofs.StepLemmas.{puts_not, puts_none, puts_member, puts_joint}

-- a query behind others, where both are read
abbrev with_read : Option Queries → Option Query → Option Queries
with_read qs q = qs >>= λ qs. q >>= λ q. Some (queries_with qs q)

with_first : (p : Query) (qs : Option Queries) (q : Option Query)
    → (with_read qs q >>= λ ps. Some (query p ps)) ≡ with_read (qs >>= λ ps. Some (query p ps)) q
with_first p None q = refl
with_first p (Some qs) None = refl
with_first p (Some qs) (Some q) = refl

-- an item more
pub queries_more : (ds : List Data) (d : Data) → queries_of (items_of (ds ++ d ∷ [])) ≡ with_read (queries_of (items_of ds)) (query_of d)
queries_more [] d = first (query_of d)
  where
    first : (q : Option Query) → (q >>= λ q. Some no_queries >>= λ qs. Some (query q qs)) ≡ with_read (Some no_queries) q
    first None = refl
    first (Some q) = refl
queries_more (e ∷ ds) d = by (query_of e) (queries_more ds d)
  where
    by : (p : Option Query) → queries_of (items_of (ds ++ d ∷ [])) ≡ with_read (queries_of (items_of ds)) (query_of d)
        → (p >>= λ p. queries_of (items_of (ds ++ d ∷ [])) >>= λ ps. Some (query p ps))
        ≡ with_read (p >>= λ p. queries_of (items_of ds) >>= λ ps. Some (query p ps)) (query_of d)
    by None same = refl
    by (Some p) same =
        ap (λ o. o >>= λ ps. Some (query p ps)) same ∙ with_first p (queries_of (items_of ds)) (query_of d)

-- an item that is no query, whatever stands behind it
pub queries_none : (ds : List Data) (d : Data) (es : List Data) → query_of d ≡ None → queries_of (items_of (ds ++ d ∷ es)) ≡ None
queries_none [] d es none = ap (λ o. o >>= λ q. queries_of (items_of es) >>= λ qs. Some (query q qs)) none
queries_none (e ∷ ds) d es none = by (query_of e) (queries_none ds d es none)
  where
    by : (p : Option Query) → queries_of (items_of (ds ++ d ∷ es)) ≡ None
        → (p >>= λ p. queries_of (items_of (ds ++ d ∷ es)) >>= λ ps. Some (query p ps)) ≡ None
    by None same = refl
    by (Some p) same = ap (λ o. o >>= λ ps. Some (query p ps)) same

-- ---- items of a slice

-- one item more
pub members_more : (vs : List Value) (i : ℕ) (v : Value) → i < length vs → v ≡ get_or vs i v
    → queries_of (items_view (take (i + 1) vs)) ≡ with_read (queries_of (items_view (take i vs))) (query_of (view v))
members_more vs i v h e =
    let more : take (i + 1) vs ≡ take i vs ++ v ∷ [] = take_more vs i v h ∙ ap (λ w. take i vs ++ w ∷ []) (sym e) in
    ap (λ xs. queries_of (items_of xs)) (ap (map view) more ∙ map-append view (take i vs) (v ∷ []))
    ∙ queries_more (map view (take i vs)) (view v)

-- an item that is no query
pub members_none : (vs : List Value) (i : ℕ) (v : Value) → i < length vs → v ≡ get_or vs i v → query_of (view v) ≡ None
    → queries_of (items_view vs) ≡ None
members_none [] i v h e none = absurd (omega arith)
members_none (x ∷ vs) zero v h e none =
    ap (λ o. o >>= λ q. queries_of (items_view vs) >>= λ qs. Some (query q qs)) (ap (λ w. query_of (view w)) (sym e) ∙ none)
members_none (x ∷ vs) (suc i) v h e none = by (query_of (view x)) (members_none vs i v (omega arith) e none)
  where
    by : (p : Option Query) → queries_of (items_view vs) ≡ None
        → (p >>= λ p. queries_of (items_view vs) >>= λ ps. Some (query p ps)) ≡ None
    by None same = refl
    by (Some p) same = ap (λ o. o >>= λ ps. Some (query p ps)) same

-- The items that were passed are queries, and their steps are put.
pub record HavePut (j : Joint) (passed : List Value) (old new : List Step) : Type 0 where
  pub queries : Queries
  pub read : queries_of (items_view passed) ≡ Some queries
  pub put : PutsMembers j old new queries

-- none was passed yet
pub none_put : (j : Joint) (old : List Step) → HavePut j [] old old
none_put j old = record { queries = no_queries; read = refl; put = puts_none j old }

-- one more was passed
pub more_put : (j : Joint) (vs : List Value) (i : ℕ) (v : Value) (old mid new end : List Step) → i < length vs → v ≡ get_or vs i v
    → HavePut j (take i vs) old mid → IsSomeAnd (query_of (view v)) (PutsQuery mid new) → end ≡ new ++ steps.Join j ∷ []
    → HavePut j (take (i + 1) vs) old end
more_put j vs i v old mid new end h e s put grown = by (query_of (view v)) refl put
  where
    by : (o : Option Query) → query_of (view v) ≡ o → IsSomeAnd o (PutsQuery mid new) → HavePut j (take (i + 1) vs) old end
    by None is p = absurd p
    by (Some q) is p =
        let P : List Step → Type 0 = λ xs. PutsMembers j old xs (queries_with s.queries q) in
        record {
          queries = queries_with s.queries q;
          read = members_more vs i v h e
              ∙ (ap (λ o. with_read o (query_of (view v))) s.read ∙ ap (with_read (Some s.queries)) is);
          put = subst P (sym grown) (puts_member j old mid new s.queries q s.put p);
        }

-- two items
pub two_items : (vs : List Value) (a b : Value) → length vs ≡ 2 → a ≡ get_or vs 0 a → b ≡ get_or vs 1 b
    → query_in (items_view vs) ≡ joined_of (view a) (query_of (view b)) (members_of (view b))
two_items [] a b n ea eb = absurd (omega arith)
two_items (x ∷ []) a b n ea eb = absurd (omega arith)
two_items (x ∷ y ∷ []) a b n ea eb =
    ap (λ v. joined_of (view v) (query_of (view y)) (members_of (view y))) (sym ea)
    ∙ ap (λ v. joined_of (view a) (query_of (view v)) (members_of (view v))) (sym eb)
two_items (x ∷ y ∷ z ∷ vs) a b n ea eb = absurd (omega arith)

-- four items are no query
pub four_items : (vs : List Value) → length vs ≡ 4 → query_in (items_view vs) ≡ None
four_items [] n = absurd (omega arith)
four_items (a ∷ []) n = absurd (omega arith)
four_items (a ∷ b ∷ []) n = absurd (omega arith)
four_items (a ∷ b ∷ c ∷ []) n = absurd (omega arith)
four_items (a ∷ b ∷ c ∷ d ∷ []) n = refl
four_items (a ∷ b ∷ c ∷ d ∷ e ∷ vs) n = absurd (omega arith)

-- nor are six or more
pub six_items : (vs : List Value) → 6 ≤ length vs → query_in (items_view vs) ≡ None
six_items [] n = absurd (omega arith)
six_items (a ∷ []) n = absurd (omega arith)
six_items (a ∷ b ∷ []) n = absurd (omega arith)
six_items (a ∷ b ∷ c ∷ []) n = absurd (omega arith)
six_items (a ∷ b ∷ c ∷ d ∷ []) n = absurd (omega arith)
six_items (a ∷ b ∷ c ∷ d ∷ e ∷ []) n = absurd (omega arith)
six_items (a ∷ b ∷ c ∷ d ∷ e ∷ f ∷ vs) n = refl

-- a query that is turned over
pub not_put : (o : Option Query) (old mid end : List Step) → IsSomeAnd o (PutsQuery old mid) → end ≡ mid ++ steps.Not ∷ []
    → IsSomeAnd (o >>= λ q. Some (none_of q)) (PutsQuery old end)
not_put None old mid end p e = absurd p
not_put (Some q) old mid end p e =
    let P : List Step → Type 0 = λ xs. PutsQuery old xs (none_of q) in subst P (sym e) (puts_not old mid q p)

-- a query of members
pub joint_put : {E : Type 0} (j : Joint) (o : Option Queries) (r : Result (Unit {0}) E) (old mid new : List Step)
    → mid ≡ old ++ steps.Begin j ∷ [] → OnOk r (IsSomeAnd o (PutsMembers j mid new))
    → OnOk r (IsSomeAnd (o >>= λ qs. Some (of_joint j qs)) (PutsQuery old new))
joint_put j o (Err e) old mid new begun p = tt
joint_put j None (Ok u) old mid new begun p = absurd p
joint_put j (Some qs) (Ok u) old mid new begun p =
    let P : List Step → Type 0 = λ xs. PutsMembers j xs new qs in puts_joint j old new qs (subst P begun p)
