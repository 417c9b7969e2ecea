use Rattle.std.proofs.Common.{◌≡◌, ◌++◌, ℕ, List, Vec, Global, OnOk, map, sym, subst, arith}
use Rattle.std.proofs.lemmas.List.{length-map}
use Rattle.col_numbers.specs.NumValues.{num_values_of}
use Rattle.col_merge_values.proofs.RemappedLemmas.{both-there, segment-is}
use Rattle.col_merge_values.proofs.remapped_term_ordinals.RemappedColumnsSegmentsU64.append_segment.Goals as goal

-- the items of the mappings
abbrev items : List (Vec ℕ Global) → List (List ℕ)
items ms = map (λ m. m.items) ms

pub ords_of-requires : goal.ords_of-requires
ords_of-requires c = (both-there c.args.self.now.bytes_columns.now (items c.args.self.now.term_ord_mapping.now) c.args.segment c.requires).0

pub mapping_of-requires : goal.mapping_of-requires
mapping_of-requires c =
    let mappings = c.args.self.now.term_ord_mapping.now in
    let there = both-there c.args.self.now.bytes_columns.now (items mappings) c.args.segment c.requires in
    omega (arith, there.1, length-map mappings (λ m. m.items))

pub returns : goal.returns
returns c =
    let appends : List ℕ → Type 0 = λ xs. OnOk c.append_mapped.result (c.append_mapped.new.values.items ≡ c.args.values.now.items ++ xs) in
    subst appends (sym (segment-is c.args.self.now.bytes_columns.now (items c.args.self.now.term_ord_mapping.now)
    c.args.segment (num_values_of c.ords_of.result.now) c.mapping_of.result.now c.ords_of.ensures
    c.mapping_of.ensures)) c.append_mapped.ensures
