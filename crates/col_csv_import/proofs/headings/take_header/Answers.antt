use Rattle.csv.specs.Records.{fields_of}
use Rattle.col_csv_import.proofs.HeadingLemmas.{header-made, spelled-named}
use Rattle.col_csv_import.proofs.headings.take_header.Goals as goal

pub are_keys-requires : goal.are_keys-requires
are_keys-requires c =
    spelled-named (fields_of c.args.fields.now) c.in_ok-headings.headings.items c.deref.result.now c.deref.ensures.value
    c.in_ok-headings.ensures

pub returns : goal.returns
returns c =
    header-made (fields_of c.args.fields.now) c.in_ok-headings.headings.items c.deref.result.now c.deref-2.result.now
    c.in_ok-columns_of.field-0.items c.is_marked.result c.are_keys.result c.is_marked.ensures c.if-not-is_marked.false
    c.in_ok-headings.ensures c.deref.ensures.value c.are_keys.ensures c.if-not-are_keys.false
    c.deref-2.ensures.value c.in_ok-columns_of.ensures.ok
