use Rattle.std.proofs.Common.{sym, subst, arith, length, map, [], ◌+◌}
use Rattle.std.proofs.lemmas.Result.{err_from_is_err_and}
use Rattle.col_types.specs.Kinds.{kind_of}
use Rattle.col_types.specs.declared.column_type.ColumnType.TheVariants.{I64}
use Rattle.col_writer_file.specs.Tables.{named_entry, made, ArePut}
use Rattle.col_writer_file.proofs.PlaceLemmas.{below-at, typed-at, put-next, put-all}
use Rattle.col_writer_file.proofs.PutColumnLemmas.{put-none, put-refused}
use Rattle.col_writer_file.proofs.TableLemmas.{types-long}
use Rattle.col_writer_file.proofs.table.serialize_columns.Goals as goal

pub loop-place-init : goal.loop-place-init
unfolding made
loop-place-init g c =
    subst
    (λ f. ArePut (g.K.Sink.seen c.args.sink.now) (g.K.Sink.seen c.args.sink.now) f (length c.args.order.now) [])
    (sym c.requires.empty) (put-none (g.K.Sink.seen c.args.sink.now) (length c.args.order.now))

pub bounds-types-place : goal.bounds-types-place
bounds-types-place g c = omega (arith, types-long c.args.order.now c.args.columns.now c.args.types.now c.requires.typed)

pub put_column-requires-clause-below : goal.put_column-requires-clause-below
put_column-requires-clause-below g c =
    below-at c.args.order.now c.args.columns.now c.loop-place.place c.index-columns-place.result c.requires.below
    (omega arith) c.index-columns-place.is

pub put_column-requires-clause-typed : goal.put_column-requires-clause-typed
put_column-requires-clause-typed g c =
    typed-at c.args.order.now c.args.columns.now c.args.types.now c.loop-place.place c.index-columns-place.result
    I64 c.requires.typed (omega arith) c.index-columns-place.is

pub returns-in_err-put_column : goal.returns-in_err-put_column
returns-in_err-put_column g c =
    let p = err_from_is_err_and c.from_residual.result c.from_residual.ensures.1 in
    rw (p.1, p.2) (put-refused _ _ _ _ _ (length c.args.order.now) _
    (made c.args.order.now (map named_entry c.args.columns.now) (map kind_of c.args.types.now)) _ _ _
    c.loop-place.invariant c.in_err-put_column.ensures.puts)

pub loop-place-preserved : goal.loop-place-preserved
loop-place-preserved g c =
    put-next _ _ _ _ _ c.args.order.now c.args.columns.now c.args.types.now c.loop-place.place
    (c.loop-place.place + 1) c.index-columns-place.result I64 _ c.loop-place.invariant
    c.in_ok-put_column.ensures.puts c.in_ok-put_column.ensures.text (omega arith)
    (omega (arith, types-long c.args.order.now c.args.columns.now c.args.types.now c.requires.typed))
    (omega arith) c.index-columns-place.is

pub returns : goal.returns
returns g c =
    put-all _ _ _ c.args.order.now c.args.columns.now c.args.types.now c.loop-place.place _ c.loop-place.invariant
    c.requires.typed (omega arith)
