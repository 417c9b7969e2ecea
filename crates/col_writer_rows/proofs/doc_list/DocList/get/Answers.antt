use Rattle.std.proofs.Common.{arith}
use Rattle.col_writer_rows.proofs.DocPlaceLemmas.{dense-place, others-within, others-place}
use Rattle.col_writer_rows.proofs.doc_list.DocList.get.Goals as goal

pub returns-then-place-num_dense : goal.returns-then-place-num_dense
returns-then-place-num_dense c =
    dense-place c.self.inside.num_dense c.self.inside.others.items c.args.self.now c.args.place c.self.view_is
    c.if-place-num_dense.true

pub index-requires : goal.index-requires
index-requires c =
    omega (
      arith,
      c.self.inside.others.ok.0,
      others-within c.self.inside.num_dense c.self.inside.others.items
          c.args.self.now c.args.place c.self.view_is (omega arith) c.requires,
    )

pub returns : goal.returns
returns c =
    others-place c.self.inside.num_dense c.self.inside.others.items c.args.self.now c.args.place c.index.result.now
    c.self.view_is (omega arith) c.requires c.index.ensures
