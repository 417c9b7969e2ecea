use Rattle.std.proofs.Common.{◌∙◌, sym, ap}
use Rattle.std.specs.List.{list_all}
use Rattle.col_model.specs.ColumnType.{is_numerical}
use Rattle.col_writer_columns.proofs.TypeListLemmas.{same_then-numerical}
use Rattle.col_writer_columns.proofs.type_list.TypeList.are_numerical.Goals as goal

pub returns : goal.returns
returns c =
    ap (list_all is_numerical) (sym c.self.view_is)
    ∙ same_then-numerical c.self.inside.num_first c.self.inside.first c.self.inside.others.items
