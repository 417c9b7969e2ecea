use Rattle.std.proofs.Common.{ℕ, List, Vec, Global, map}
use Rattle.col_numbers.specs.NumValues.{num_values_of}
use Rattle.col_merge_values.proofs.RemappedLemmas.{both-there, remapped-length}
use Rattle.col_merge_values.proofs.remapped_term_ordinals.RemappedColumnsSegmentsU64.num_vals.Goals as goal

-- the items of the mappings
abbrev items : List (Vec ℕ Global) → List (List ℕ)
items ms = map (λ m. m.items) ms

pub ords_of-requires : goal.ords_of-requires
ords_of-requires c = (both-there c.args.self.now.bytes_columns.now (items c.args.self.now.term_ord_mapping.now) c.args.segment c.requires).0

pub returns : goal.returns
returns c =
    remapped-length c.args.self.now.bytes_columns.now (items c.args.self.now.term_ord_mapping.now) c.args.segment
    c.num_vals.result (num_values_of c.ords_of.result.now) c.requires c.ords_of.ensures c.num_vals.ensures
