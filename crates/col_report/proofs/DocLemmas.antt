-- Documents in a report.
use Rattle.std.proofs.Common.{◌≡◌, ◌∙◌, ℕ, suc, ◌+◌, ◌-◌, ◌<◌, ◌≤◌, List, [], ◌∷◌, ◌++◌, map, length, take, drop, slice_index, decimal, codes, refl, sym, ap, arith, append_assoc}
use Rattle.std.proofs.lemmas.List.{drop_more, drop_all, take_all}
use Rattle.serde_json.specs.Data.{Data}
use Rattle.serde_json.specs.Written.{compact_text}
use Rattle.col_program.specs.Report.{count_data, list_data}
use Rattle.col_report.specs.Printed.{Spells, more_text}
use Rattle.col_report.proofs.RowLemmas.{items-more, more-value, more-none}

-- ---- documents

-- no rows are spelled as an empty array
pub none-spelled : (a b : List ℕ) (ns : List ℕ) → length ns < 1 → b ≡ a ++ codes "[]" → Spells a b (list_data (map count_data ns))
unfolding Spells
none-spelled a b [] none e = e
none-spelled a b (n ∷ ns) none e = absurd (omega arith)

pub list-text : (d : Data) (ds : List Data) → compact_text (list_data (d ∷ ds)) ≡ 91 ∷ (compact_text d ++ (more_text ds ++ 93 ∷ []))
list-text d ds = rw (items-more ds) refl

-- a list that isn't empty is its first item and the others
pub first-and-others : (ns : List ℕ) → 1 ≤ length ns → ns ≡ slice_index ns 0 ∷ take (length ns - 1) (drop 1 ns)
first-and-others [] some = absurd (omega arith)
first-and-others (n ∷ ns) some = ap (λ ms. n ∷ ms) (sym (take_all (suc (length ns) - 1) ns (omega arith)))

-- rows are spelled as an array: the first, then the others with a comma in front of each
pub list-spelled : (a b c d e : List ℕ) (n : ℕ) (ns all : List ℕ) → all ≡ n ∷ ns → b ≡ a ++ 91 ∷ []
    → c ≡ b ++ decimal n → d ≡ c ++ more_text (map count_data ns) → e ≡ d ++ 93 ∷ []
    → Spells a e (list_data (map count_data all))
unfolding Spells
list-spelled a b c d e n ns all is one two three four =
    let chain : e ≡ a ++ 91 ∷ (decimal n ++ (more_text (map count_data ns) ++ 93 ∷ [])) = rw (four, three, two, one) (simp append_assoc) in
    rw is (chain ∙ ap (λ t. a ++ t) (sym (list-text (count_data n) (map count_data ns))))

-- one more document
pub doc-more : (a b c r ns : List ℕ) (i : ℕ) (n : ℕ) → i < length ns → n ≡ slice_index ns i
    → a ++ more_text (map count_data (drop i ns)) ≡ r → b ≡ a ++ 44 ∷ [] → c ≡ b ++ decimal n
    → c ++ more_text (map count_data (drop (i + 1) ns)) ≡ r
unfolding Spells
doc-more a b c r ns i n within is left comma digits =
    let step : drop i ns ≡ n ∷ drop (i + 1) ns = drop_more ns i 0 within ∙ ap (λ m. m ∷ drop (i + 1) ns) (sym is) in
    let now = ap (λ ns. a ++ more_text (map count_data ns)) (sym step) ∙ left in
    more-value a b c r (count_data n) (map count_data (drop (i + 1) ns)) now comma digits

-- where no row is left, all were spelled
pub docs-end : (a r ns : List ℕ) (i : ℕ) → length ns ≤ i → a ++ more_text (map count_data (drop i ns)) ≡ r → a ≡ r
docs-end a r ns i past left = more-none a r (map count_data (drop i ns)) left (ap (map count_data) (drop_all i ns past))
