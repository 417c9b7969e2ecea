use Rattle.std.proofs.Common.{◌≡◌, false, [], ◌∷◌, map, sym, subst, ◌∙◌, Some, arith, w64, to_z, of_z}
use Rattle.std.proofs.lemmas.Int.{ints}
use Rattle.col_common.specs.Serializing.{Serializes}
use Rattle.col_model.specs.Written.{is_past_ties}
use Rattle.col_values.specs.Codes.{i64_code}
use Rattle.col_indexer.specs.Spelling.{full_index}
use Rattle.col_column.specs.Written.{number_column_bytes}
use Rattle.col_column.proofs.SerializeNumberLemmas.{number_column-written}
use Rattle.col_column.proofs.SerializeTieLemmas.{ties-are, ties-few, ties-within, tie-read}
use Rattle.col_column.proofs.serialize.serialize_generated_tie_breaker_column.Goals as goal

pub serialize_numbers_behind-requires-clause-few : goal.serialize_numbers_behind-requires-clause-few
serialize_numbers_behind-requires-clause-few g c =
    let same : to_z w64 (of_z w64 c.args.start) ≡ c.args.start = omega (arith, ints) in
    let within = ties-within c.args.start c.args.num_docs (subst
    (λ z. is_past_ties c.args.num_docs (Some z) ≡ false) same
    (sym c.is_past_ties.ensures ∙ c.if-is_past_ties.false)) in
    ties-few c.args.start _ _ c.args.num_docs same (omega (arith, ints)) (omega arith)

pub returns-in_err-index_len-clause-again : goal.returns-in_err-index_len-clause-again
returns-in_err-index_len-clause-again g c within = tie-read c.args.start c.args.num_docs (omega arith) within

pub returns-clause-ok : goal.returns-clause-ok
returns-clause-ok g c not_past =
    let same : to_z w64 (of_z w64 c.args.start) ≡ c.args.start = omega (arith, ints) in
    let within = ties-within c.args.start c.args.num_docs not_past in
    subst
    (λ zs. Serializes (g.K.Sink.seen c.args.sink.now) (g.K.Sink.seen c.serialize_numbers_behind.new.sink)
    c.serialize_numbers_behind.result (number_column_bytes (0 ∷ 1 ∷ 2 ∷ []) full_index (map i64_code zs)))
    (ties-are c.args.start _ _ c.args.num_docs same (omega (arith, ints)))
    (number_column-written _ _ _ _ _ _ _ _ _ c.in_ok-index_len.ensures.length c.in_ok-index_len.ensures.ok
    c.serialize_numbers_behind.ensures.ok)

pub returns-clause-again : goal.returns-clause-again
returns-clause-again g c within = tie-read c.args.start c.args.num_docs (omega arith) within
