use Rattle.std.proofs.Common.{arith}
use Rattle.col_writer_rows.proofs.TextLemmas.{short-length}
use Rattle.col_writer_rows.proofs.texts.dictionary_len.Goals as goal

pub overflow_mul-result : goal.overflow_mul-result
overflow_mul-result c = let p = short-length c.args.terms.now c.requires.differ c.requires.fits in omega (arith, p.1, c.num_terms.ensures)

pub overflow_add-result : goal.overflow_add-result
overflow_add-result c = let p = short-length c.args.terms.now c.requires.differ c.requires.fits in omega (arith, p.1, c.num_terms.ensures)

pub overflow_add-result-2 : goal.overflow_add-result-2
overflow_add-result-2 c =
    let p = short-length c.args.terms.now c.requires.differ c.requires.fits in omega
    (arith, p.1, c.num_terms.ensures, c.terms_num_bytes.ensures)

pub overflow_cast-result : goal.overflow_cast-result
overflow_cast-result c =
    let p = short-length c.args.terms.now c.requires.differ c.requires.fits in omega
    (arith, p.1, c.num_terms.ensures, c.terms_num_bytes.ensures)

pub returns : goal.returns
returns c =
    let p = short-length c.args.terms.now c.requires.differ c.requires.fits in omega
    (arith, p.0, p.1, c.num_terms.ensures, c.terms_num_bytes.ensures)
