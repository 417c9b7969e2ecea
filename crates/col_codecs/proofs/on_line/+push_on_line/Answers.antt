use Rattle.std.proofs.Common.{◌-◌, ◌+◌, ◌/◌, ◌++◌, ◌∙◌, inl, inr, arith, ap, sym, append_assoc}
use Rattle.std.proofs.lemmas.Result.{on_ok_weaker}
use Rattle.col_codecs.specs.OnLine.{on_line}
use Rattle.col_codecs.specs.BoundedItems.{ids_by}
use Rattle.col_codecs.proofs.BoundedItemLemmas.{ids_by-joined}
use Rattle.col_codecs.proofs.OnLineLemmas.{line-outside, line-inside}
use Rattle.col_codecs.proofs.on_line.+push_on_line.Goals.{then-greatest-low-via-then-greatest-low, then-greatest-low-via-else-greatest-low+then-high-least}
use Rattle.col_codecs.proofs.on_line.+push_on_line.Goals as goal

pub returns-then-greatest-low : goal.returns-then-greatest-low
returns-then-greatest-low t c =
    let a = c.args in
    line-outside a.line c.bounds_on-least.result a.low a.high a.ids.start (a.ids.«end» - a.ids.start) a.hits.now.items
    c.bounds_on-least.ensures
    (elim c.then-greatest-low.branch [
      | then-greatest-low-via-then-greatest-low w ↦ inl w.if-greatest-low.true
      | then-greatest-low-via-else-greatest-low+then-high-least w ↦ inr w.if-high-least.true
    ])

pub returns-then-greatest-high : goal.returns-then-greatest-high
returns-then-greatest-high t c =
    let a = c.args in
    on_ok_weaker c.push_all.result
    (λ e. e ∙ line-inside a.line c.bounds_on-least.result a.low a.high a.ids.start (a.ids.«end» - a.ids.start) a.hits.now.items
    c.bounds_on-least.ensures c.if-low-least.true c.if-greatest-high.true)
    c.push_all.ensures

pub returns : goal.returns
returns t c =
    let a = c.args in
    let from = a.ids.start in
    let count = a.ids.«end» - from in
    let middle = from + count / 2 in
    let f = on_line a.line in
    let first = ids_by f a.low a.high from (middle - from) in
    let second = ids_by f a.low a.high middle (a.ids.«end» - middle) in
    on_ok_weaker c.push_on_line-2.result
    (λ e. e ∙ ap (λ r. r ++ second) c.in_ok-push_on_line.ensures ∙ append_assoc a.hits.now.items first second
    ∙ ap (λ r. a.hits.now.items ++ r) (sym (ids_by-joined f a.low a.high from (middle - from) (a.ids.«end» - middle) middle count
    (omega arith) (omega arith))))
    c.push_on_line-2.ensures
