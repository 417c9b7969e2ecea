use Rattle.std.proofs.Common.{rules, map, List, ℕ, Bor}
use Rattle.std.proofs.lemmas.List.Sorted.{answers_always}
use Rattle.col_model.specs.Category.{category_place}
use Rattle.col_writer_file.specs.EntryColumns.{category_in}
use Rattle.col_writer_file.specs.Tables.{named_entry}
use Rattle.col_writer_file.specs.declared.named_entry.NamedEntry.{NamedEntry}
use Rattle.col_writer.proofs.ListedLemmas.{sorted-is}
use Rattle.col_writer.proofs.SortedColumnLemmas.{columns-sorted}
use Rattle.col_writer.proofs.writer.ColumnarWriter.sorted_columns.Goals as goal

-- what columns are sorted by
key : NamedEntry → Bor (List ℕ) × ℕ
key n = (n.name, category_place (category_in n.column))

pub returns : goal.returns
unfolding key
returns c =
    let sorted = c.sort_unstable_by_key.ensures in
    sorted-is (map named_entry c.in_ok-columns.columns.items) _ c.args.self.now c.in_ok-columns.ensures
    (columns-sorted c.in_ok-columns.columns.items c.sort_unstable_by_key.new.self.items sorted.permutation
    (sorted.sorted key (answers_always _ _ _ (λ f a r g h. search rules))))
