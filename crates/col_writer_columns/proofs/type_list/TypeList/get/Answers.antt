use Rattle.std.proofs.Common.{arith}
use Rattle.col_writer_columns.proofs.TypeListLemmas.{first-place, others-within, others-place}
use Rattle.col_writer_columns.proofs.type_list.TypeList.get.Goals as goal

pub returns-then-place-num_first : goal.returns-then-place-num_first
returns-then-place-num_first c =
    first-place c.self.inside.num_first c.self.inside.first c.self.inside.others.items c.args.self.now c.args.place
    c.self.view_is c.if-place-num_first.true

pub index-requires : goal.index-requires
index-requires c =
    omega (
      arith,
      c.self.inside.others.ok.0,
      others-within c.self.inside.num_first c.self.inside.first
          c.self.inside.others.items c.args.self.now c.args.place c.self.view_is (omega arith) c.requires,
    )

pub returns : goal.returns
returns c =
    others-place c.self.inside.num_first c.self.inside.first c.index.result.now c.self.inside.others.items
    c.args.self.now c.args.place c.self.view_is (omega arith) c.requires c.index.ensures
