use Rattle.std.proofs.Common.{ℕ, List, Vec, Global, map, length, refl, arith}
use Rattle.std.proofs.lemmas.List.{length-map}
use Rattle.col_numbers.specs.NumValues.{num_values_of}
use Rattle.col_merge_values.proofs.RemappedLemmas.{both-there, remapped-length, remapped-value}
use Rattle.col_merge_values.proofs.remapped_term_ordinals.RemappedColumnsSegmentsU64.get_val.Goals as goal

-- the items of the mappings
abbrev items : List (Vec ℕ Global) → List (List ℕ)
items ms = map (λ m. m.items) ms

pub ords_of-requires : goal.ords_of-requires
ords_of-requires c =
    (both-there c.args.self.now.bytes_columns.now (items c.args.self.now.term_ord_mapping.now) c.args.segment
    c.requires.segment).0

pub get_val-ord-requires : goal.get_val-ord-requires
get_val-ord-requires c =
    let ords = num_values_of c.ords_of.result.now in
    let long = remapped-length c.args.self.now.bytes_columns.now (items c.args.self.now.term_ord_mapping.now)
    c.args.segment (length ords) ords c.requires.segment c.ords_of.ensures refl in
    omega (arith, long, c.requires.position)

pub mapping_of-requires : goal.mapping_of-requires
mapping_of-requires c =
    let mappings = c.args.self.now.term_ord_mapping.now in
    let there = both-there c.args.self.now.bytes_columns.now (items mappings) c.args.segment c.requires.segment in
    omega (arith, there.1, length-map mappings (λ m. m.items))

pub returns : goal.returns
returns c =
    remapped-value c.args.self.now.bytes_columns.now (items c.args.self.now.term_ord_mapping.now) c.args.segment
    c.args.idx c.get_val-ord.result c.item_at.result (num_values_of c.ords_of.result.now) c.mapping_of.result.now
    c.ords_of.ensures c.mapping_of.ensures c.get_val-ord.ensures c.item_at.ensures
