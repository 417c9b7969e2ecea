use Rattle.std.proofs.Common.{length, sym, arith}
use Rattle.std.proofs.lemmas.Bool.{eqb-false}
use Rattle.col_load_csv.proofs.SightLemmas.{field_seen}
use Rattle.col_load_csv.proofs.seen.Seen.with_field.Goals as goal

pub returns : goal.returns
returns c =
    field_seen c.args.self record {
      signed = c.are_signed.result;
      unsigned = c.are_unsigned.result;
      numbers = c.are_numbers.result;
      whole = c.are_whole.result;
      flags = c.are_flags.result;
    } c.args.field.now (omega (arith, eqb-false (length c.args.field.now) 0 (sym (c.if-is_empty.ensures {u = tt}))))
    c.are_signed.ensures c.are_unsigned.ensures c.are_numbers.ensures c.are_whole.ensures c.are_flags.ensures
