use Rattle.std.proofs.Common.{◌≡◌, ◌+◌, ◌++◌, ap, sym, subst, ◌∙◌, append-nil, arith}
use Rattle.std.specs.Prelude.{OnOk}
use Rattle.std.specs.List.{range_with_len}
use Rattle.col_index.proofs.CountLaws.{sum-set_counts}
use Rattle.col_indexer.proofs.UniformLemmas.{sum_as, sum-ones, ends_as, ends-zeros, ends-ones, ends-set}
use Rattle.col_indexer.proofs.stacked_lists.push_ends.Goals as goal

pub returns-in-Empty : goal.returns-in-Empty
returns-in-Empty c =
    sym (ap (λ ends. c.args.starts.now.items ++ ends)
    (ends_as c.args.before c.args.num_rows c.args.column_index.now _ _ c.in-Empty.is
    (ends-zeros c.args.before c.args.num_rows)) ∙ append-nil _)

pub push_numbers-requires : goal.push_numbers-requires
push_numbers-requires c =
    omega (
      arith,
      c.requires,
      sum_as c.args.num_rows c.args.column_index.now _ _ c.in-Full.is (sum-ones c.args.num_rows),
    )

pub returns-in-Full : goal.returns-in-Full
returns-in-Full c =
    subst (λ ends. OnOk c.push_numbers.result (c.push_numbers.new.starts.items ≡ c.args.starts.now.items ++ ends))
    (sym (ends_as c.args.before c.args.num_rows c.args.column_index.now _ _ c.in-Full.is
    (ends-ones c.args.before c.args.num_rows)))
    c.push_numbers.ensures

pub push_numbers-requires-in-Optional : goal.push_numbers-requires-in-Optional
push_numbers-requires-in-Optional c =
    omega (
      arith,
      c.requires,
      c.num_non_nulls.ensures,
      sum_as c.args.num_rows c.args.column_index.now _ _ c.in-Optional.is
          (sum-set_counts c.in-Optional.index c.rows_rise.ensures),
    )

pub returns-in-Optional : goal.returns-in-Optional
returns-in-Optional c =
    subst
    (λ ends. OnOk c.push_numbers-in-Optional.result
    (c.push_numbers-in-Optional.new.starts.items ≡ c.args.starts.now.items ++ ends))
    (ap (range_with_len (c.args.before + 1)) c.num_non_nulls.ensures
    ∙ sym (ends_as c.args.before c.args.num_rows c.args.column_index.now _ _ c.in-Optional.is
    (ends-set c.args.before c.in-Optional.index c.rows_rise.ensures)))
    c.push_numbers-in-Optional.ensures
