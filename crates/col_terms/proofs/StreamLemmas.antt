-- Steps of walks over terms.
use Rattle.std.proofs.Common.{◌≡◌, ℕ, suc, ◌+◌, ◌-◌, ◌<◌, ◌≤◌, Bool, true, List, [], ◌∷◌, length, get_or, slice_get, take, drop, Some, sym, ap, ◌∙◌, arith}
use Rattle.std.proofs.lemmas.List.{drop_more, take_all}
use Rattle.std.proofs.lemmas.List.FromFn.{length-enumerate_from, get_or-enumerate_from}
use Rattle.std.proofs.lemmas.Option.{get_or_from_slice_get}
use Rattle.col_terms.specs.TermTable.{terms_of, IsTable}
use Rattle.col_terms.specs.Streams.{OrdTerm, TermStream, stepped, numbered, walk_between}

-- all terms stand between the first place and the last
pub numbered-whole : (ts : List (List ℕ)) (n : ℕ) → n ≡ length ts → take (n - 0) (drop 0 (numbered ts)) ≡ numbered ts
numbered-whole ts n e = take_all (n - 0) (numbered ts) (omega (arith, length-enumerate_from 0 ts))

-- the first term left, and those behind it
first_left : (ts : List (List ℕ)) (next upto : ℕ) (key : List ℕ) → next < upto → upto ≤ length ts
    → slice_get ts next ≡ Some key
    → take (upto - next) (drop next (numbered ts))
    ≡ (next, key) ∷ take (upto - (next + 1)) (drop (next + 1) (numbered ts))
first_left ts next upto key h k read =
    let nothing : OrdTerm = (0, []) in
    let long = length-enumerate_from 0 ts in
    let at : get_or (numbered ts) next nothing ≡ (next, key) =
    get_or-enumerate_from 0 ts next nothing (omega arith)
    ∙ ap (λ t. (0 + next, t)) (get_or_from_slice_get ts next key [] read) ∙ ap (λ i. (i, key)) (omega arith) in
    let less : upto - next ≡ suc (upto - (next + 1)) = omega arith in
    ap (λ n. take n (drop next (numbered ts))) less
    ∙ ap (take (suc (upto - (next + 1)))) (drop_more (numbered ts) next nothing (omega arith))
    ∙ ap (λ p. p ∷ take (upto - (next + 1)) (drop (next + 1) (numbered ts))) at

-- a step to the next term
pub walk-step : (bytes : List ℕ) (n next upto : ℕ) (was : Bool) (old key : List ℕ) → IsTable bytes n → next < upto
    → upto ≤ n → slice_get (terms_of bytes) next ≡ Some key
    → walk_between bytes (next + 1) upto true key ≡ stepped (walk_between bytes next upto was old).left
walk-step bytes n next upto was old key t h k read =
    let back : next + 1 - 1 ≡ next = omega arith in
    let here : TermStream = record {
      left = take (upto - (next + 1)) (drop (next + 1) (numbered (terms_of bytes)));
      current = Some (next, key);
    } in
    let moved : walk_between bytes (next + 1) upto true key ≡ here = ap (λ i. record here { current = Some (i, key) }) back in
    moved ∙ ap stepped (sym (first_left (terms_of bytes) next upto key h (omega (arith, t.count)) read))
