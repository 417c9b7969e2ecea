use Rattle.std.proofs.Common.{◌≡◌, List, ℕ, ◌∙◌, ap, sym, subst, map, true}
use Rattle.std.specs.Int.{is_in_range}
use Rattle.std.specs.List.{list_all}
use Rattle.col_common.specs.Replacing.{Replaces}
use Rattle.col_model.specs.AddressList.{code_count, coded_number}
use Rattle.col_values.specs.Codes.{number_cmp}
use Rattle.col_values.specs.Values.{hits_between}
use Rattle.col_compact.specs.Coded.{numbers_of}
use Rattle.col_compact.proofs.decompressor.CompactSpaceDecompressor.get_row_ids_counted.Goals as goal

pub find_numbers-requires : goal.find_numbers-requires
find_numbers-requires g c =
    let list = c.args.self.now in
    let ranges : c.counted_codes-codes.result ≡ list.ranges = c.counted_codes-codes.ensures ∙ ap (λ d. d.ranges) c.self.view_is in
    subst (λ (rs : List (ℕ × ℕ)). list_all (is_in_range 1 (code_count rs)) c.packed_codes.result ≡ true) (sym ranges)
    (subst (λ (xs : List ℕ). list_all (is_in_range 1 (code_count list.ranges)) xs ≡ true)
    (sym c.packed_codes.ensures.value) c.packed_codes.ensures.codes)

pub returns-clause-ok : goal.returns-clause-ok
returns-clause-ok g c =
    let list = c.args.self.now in
    let ends = c.into_inner-low.ensures in
    let ranges : c.counted_codes-codes.result ≡ list.ranges = c.counted_codes-codes.ensures ∙ ap (λ d. d.ranges) c.self.view_is in
    let numbers : map (coded_number c.counted_codes-codes.result) c.packed_codes.result ≡ numbers_of list =
    λ i. map (coded_number (ranges i)) (c.packed_codes.ensures.value i) in
    subst (λ (rows : List ℕ). Replaces c.find_numbers.result c.find_numbers.new.hits.items rows)
    (λ i. hits_between number_cmp (numbers i) (ends.start i) (ends.end i) c.args.row_ids.start c.args.row_ids.end)
    c.find_numbers.ensures.ok
