use Rattle.std.proofs.Common.{[], ◌∙◌, ap, sym, arith, length, get_or, ◌<◌}
use Rattle.std.proofs.lemmas.Result.{err_from_is_err_and}
use Rattle.col_program.specs.Outcome.{segment_table}
use Rattle.col_program.specs.Script.{Segment}
use Rattle.col_script.specs.Segments.{filled, segment_of}
use Rattle.col_outcome.proofs.MadeFileLemmas.{made-none, made-more, made-refused, made-all}
use Rattle.col_outcome.proofs.TableLemmas.{same-at}
use Rattle.col_upgrade.proofs.PutLemmas.{same-many}
use Rattle.col_model.specs.File.{StandsFor}
use Rattle.col_outcome.proofs.segments.segment_files.Goals as goal

abbrev blank : Segment
blank = record { count = 0; calls = [] }

pub loop-place-init : goal.loop-place-init
loop-place-init c = λ ss h. made-none StandsFor segment_table ss c.new-files.result.items c.new-files.ensures.items

pub returns-in_err-file : goal.returns-in_err-file
returns-in_err-file c = λ ss h.
    let within : c.loop-place.place < length c.args.segments.now = omega (arith, c.loop-place-test.true, c.loop-place.auto.place-end) in
    let p = err_from_is_err_and c.from_residual.result c.from_residual.ensures.1 in
    rw (p.1, p.2) (made-refused StandsFor _ segment_table ss c.loop-place.place blank c.loop-place.files.items _
    (c.loop-place.invariant ss h)
    (rw (same-many filled segment_of ss c.args.segments.now h) within)
    (c.in_err-file.ensures (get_or ss c.loop-place.place blank) (same-at filled segment_of ss c.args.segments.now
    c.loop-place.place blank c.index-segments-place.result h within
    ∙ ap segment_of (sym c.index-segments-place.is))))

pub loop-place-preserved : goal.loop-place-preserved
loop-place-preserved c = λ ss h.
    let within : c.loop-place.place < length c.args.segments.now = omega (arith, c.loop-place-test.true, c.loop-place.auto.place-end) in
    made-more StandsFor segment_table ss c.loop-place.place _ blank c.loop-place.files.items _ c.in_ok-file.file
    (c.loop-place.invariant ss h)
    (rw (same-many filled segment_of ss c.args.segments.now h) within) (omega arith)
    (c.in_ok-file.ensures (get_or ss c.loop-place.place blank) (same-at filled segment_of ss c.args.segments.now
    c.loop-place.place blank c.index-segments-place.result h within
    ∙ ap segment_of (sym c.index-segments-place.is)))
    c.in_ok-push.ensures.items

pub returns : goal.returns
returns c = λ ss h. made-all StandsFor (λ v. v.items) segment_table ss c.loop-place.place c.loop-place.files (c.loop-place.invariant ss h)
    (omega (arith, same-many filled segment_of ss c.args.segments.now h, c.loop-place-test.false))
