use Rattle.std.proofs.Common.{arith, ap, refl, ◌∙◌, ◌++◌, slice_index}
use Rattle.std.proofs.lemmas.List.{take_all}
use Rattle.json.specs.Print.{escape, escape_byte}
use Rattle.col_print.proofs.EscapeLemmas.{text-more, text-next}
use Rattle.col_print.proofs.PutsLemmas.{puts_none, puts_then, puts_as}
use Rattle.col_print.proofs.quoted.put_escaped.Goals as goal

pub loop-start-init : goal.loop-start-init
loop-start-init g c = record { within = omega arith; puts = puts_none _ }

pub returns-then-end-text : goal.returns-then-end-text
returns-then-end-text g c =
    let text = c.args.text.now in
    let end = c.plain_end-end.result in
    puts_as _ _ _ _ (text-more text c.loop-start.start end c.plain_end-end.ensures.within.0 c.plain_end-end.ensures.plain
    ∙ ap escape (take_all end text (omega (arith, c.if-end-text.true))))
    (puts_then _ _ _ _ _ c.loop-start.invariant.puts c.put.ensures)

pub loop-start-preserved : goal.loop-start-preserved
loop-start-preserved g c = record {
  within = omega (arith, c.if-end-text.false, c.plain_end-end.ensures.within.1);
  puts =
      let text = c.args.text.now in
      let end = c.plain_end-end.result in
      puts_as _ _ _ _ (ap (λ s. s ++ escape_byte (slice_index text end))
      (text-more text c.loop-start.start end c.plain_end-end.ensures.within.0 c.plain_end-end.ensures.plain)
      ∙ text-next text end _ (omega (arith, c.if-end-text.false, c.plain_end-end.ensures.within.1)) refl)
      (puts_then _ _ _ _ _ (puts_then _ _ _ _ _ c.loop-start.invariant.puts c.put.ensures) c.put_escape.ensures);
}

pub returns : goal.returns
returns g c =
    puts_as _ _ _ _ (ap escape (take_all c.loop-start.start c.args.text.now (omega arith))) c.loop-start.invariant.puts
