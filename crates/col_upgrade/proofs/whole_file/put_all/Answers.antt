use Rattle.std.proofs.Common.{◌∙◌, ◌+◌, ◌++◌, ap, map, sym, subst, Some, length, arith}
use Rattle.std.proofs.lemmas.Option.{slice_get-get_or}
use Rattle.std.proofs.lemmas.Result.{err_from_is_err_and}
use Rattle.col_common.proofs.SerializingLemmas.{appends_more}
use Rattle.col_file.specs.Handles.{listed}
use Rattle.col_file.proofs.ReadLemmas.{reads-most, reads-none, reads-then}
use Rattle.col_upgrade.specs.Upgrades.{PutSoFar}
use Rattle.col_upgrade.proofs.PutLemmas.{grows-none, item-listed, named_by, same-many, all-taken, put-more, put-none, put-stops}
use Rattle.col_upgrade.proofs.whole_file.put_all.Goals as goal

pub loop-entry-init : goal.loop-entry-init
loop-entry-init g c =
    let a = g.K.Sink.seen c.args.output.now in record {
      kept = reads-none 0 c.args.reader.now;
      grown = grows-none a;
      later = omega arith;
      put = put-none c.args.reader.now a c.args.columns.now c.requires;
    }

pub loop-entry-preserved : goal.loop-entry-preserved
loop-entry-preserved g c =
    let old = c.args.reader.now in
    let now = c.loop-entry.reader in
    let next = c.put_again.new.reader in
    let start = g.K.Sink.seen c.args.output.now in
    let a = g.K.Sink.seen c.loop-entry.output in
    let b = g.K.Sink.seen c.put_again.new.output in
    let was = c.loop-entry.invariant in
    let i = c.loop-entry.entry-index in
    let item = c.entry-item.result in
    let items = c.deref-entry-items.result.now in
    let own = item-listed items old.keys.entries
    (ap (map named_by) c.deref-entry-items.ensures.value ∙ c.in_ok-listed.ensures.ok) i item
    (slice_get-get_or items i item (omega arith) ∙ ap Some (sym c.entry-item.is)) in
    let more = c.in_ok-put_again.ensures.grown in
    record {
      kept = reads-then i 1 old now next was.kept c.in_ok-put_again.ensures.kept;
      grown = (
        was.grown.0 ++ more.0,
        appends_more start a b was.grown.0 more.0 was.grown.1 more.1,
      );
      later = omega (arith, was.later, c.in_ok-put_again.ensures.later);
      put = put-more old now i own.entry own.here was.kept start a b c.loop-entry.columns c.put_again.new.columns
          c.as_str.result.now item.1 (c.as_str.ensures.value ∙ own.name) own.handled was.put c.in_ok-put_again.ensures.answer;
    }

pub returns-in_err-listed-clause-grown : goal.returns-in_err-listed-clause-grown
returns-in_err-listed-clause-grown g c = grows-none (g.K.Sink.seen c.args.output.now)

pub returns-in_err-listed-clause-kept : goal.returns-in_err-listed-clause-kept
returns-in_err-listed-clause-kept g c = reads-none (length c.args.reader.now.keys.entries) c.args.reader.now

pub returns-in_err-put_again-clause-answer : goal.returns-in_err-put_again-clause-answer
returns-in_err-put_again-clause-answer g c =
    let p =
    err_from_is_err_and c.from_residual-in_err-put_again.result c.from_residual-in_err-put_again.ensures.1 in
    let item = c.entry-item.result in
    let items = c.deref-entry-items.result.now in
    let i = c.loop-entry.entry-index in
    let was = c.loop-entry.invariant in
    let old = c.args.reader.now in
    let own = item-listed items old.keys.entries
    (ap (map named_by) c.deref-entry-items.ensures.value ∙ c.in_ok-listed.ensures.ok) i item
    (slice_get-get_or items i item (omega arith) ∙ ap Some (sym c.entry-item.is)) in
    rw (p.1, p.2) (put-stops old c.loop-entry.reader c.put_again.new.reader i own.entry
    (g.K.Sink.seen c.args.output.now) (g.K.Sink.seen c.loop-entry.output) (g.K.Sink.seen c.put_again.new.output)
    c.in_err-put_again.field-0.0 item.1 own.here own.handled c.file_is_whole.ensures was.kept was.later
    c.in_err-put_again.ensures.answer)

pub returns-in_err-put_again-clause-grown : goal.returns-in_err-put_again-clause-grown
returns-in_err-put_again-clause-grown g c =
    let first = c.loop-entry.invariant.grown in
    let more = c.in_err-put_again.ensures.grown in (
      first.0 ++ more.0,
      appends_more (g.K.Sink.seen c.args.output.now) (g.K.Sink.seen c.loop-entry.output) (g.K.Sink.seen c.put_again.new.output)
          first.0 more.0 first.1 more.1,
    )

pub returns-in_err-put_again-clause-kept : goal.returns-in_err-put_again-clause-kept
returns-in_err-put_again-clause-kept g c =
    let old = c.args.reader.now in
    let i = c.loop-entry.entry-index in
    let many = same-many named_by listed c.in_ok-listed.listed.items
    old.keys.entries c.in_ok-listed.ensures.ok in
    reads-most (i + 1) (length old.keys.entries) old c.put_again.new.reader (omega (arith, many))
    (reads-then i 1 old c.loop-entry.reader c.put_again.new.reader c.loop-entry.invariant.kept c.in_err-put_again.ensures.kept)

pub returns-in_err-put_again-clause-later : goal.returns-in_err-put_again-clause-later
returns-in_err-put_again-clause-later g c = omega (arith, c.loop-entry.invariant.later, c.in_err-put_again.ensures.later)

pub returns-clause-kept : goal.returns-clause-kept
returns-clause-kept g c =
    let old = c.args.reader.now in
    let many = same-many named_by listed c.in_ok-listed.listed.items
    old.keys.entries c.in_ok-listed.ensures.ok in
    reads-most c.loop-entry.entry-index (length old.keys.entries) old c.loop-entry.reader (omega (arith, many))
    c.loop-entry.invariant.kept

pub returns-clause-answer : goal.returns-clause-answer
returns-clause-answer g c =
    subst (λ es. PutSoFar c.args.reader.now (g.K.Sink.seen c.args.output.now) (g.K.Sink.seen c.loop-entry.output)
    c.loop-entry.columns es)
    (all-taken named_by listed c.in_ok-listed.listed.items
    c.args.reader.now.keys.entries c.in_ok-listed.ensures.ok c.loop-entry.entry-index (omega (arith, c.loop-entry-test.false)))
    c.loop-entry.invariant.put
