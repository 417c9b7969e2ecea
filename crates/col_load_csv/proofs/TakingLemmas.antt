-- Records that are taken one after another.
use Rattle.std.proofs.Common.{◌≡◌, ◌∙◌, ◌+◌, ◌-◌, ◌<◌, ◌≤◌, ℕ, Bool, List, [], ◌∷◌, ◌++◌, drop, length, Result, Ok, sym, ap, ap₂, append-nil, arith}
use Rattle.std.specs.List.{count_by}
use Rattle.std.proofs.lemmas.List.Sums.{sum_by-cons}
use Rattle.csv.specs.Reading.{strip_bom}
use Rattle.col_load.specs.Loads.{Document, Stop, both, document_in}
use Rattle.col_load.specs.Loading.{IsStop}
use Rattle.col_load.specs.Rows.{HasDocuments}
use Rattle.col_load.specs.declared.load_error.LoadError.{LoadError}
use Rattle.col_load_csv.specs.Columns.{CsvColumn, document_of}
use Rattle.col_load_csv.specs.Documents.{counts_behind, documents_from, first_number, is_bad, text_records}
use Rattle.col_load_csv.specs.Readers.{IsReading, TextReader, Took, left_of}
use Rattle.col_load_csv.specs.Taking.{HasTaken, TakesRecord, bad_count}
use Rattle.col_load_csv.specs.declared.take.Taken.{Taken}
use Rattle.col_load_csv.proofs.PartLemmas.{both_both, both_none, counted_more, stop_same, stopped_both}
use Rattle.col_load_csv.proofs.ReaderLemmas.{no_more}

-- So many of all records behind the first one were taken, and the others are left.
pub record IsTaking (columns : List CsvColumn) (skips : Bool) (all : List (List (List ℕ))) (most count : ℕ) (rdr : TextReader)
    (taken : Taken) : Type 0 where
  pub reading : IsReading rdr
  pub docs : List Document
  pub rows : HasDocuments docs taken.rows
  pub read : documents_from columns skips first_number all
      ≡ both (Ok docs) (documents_from columns skips (taken.counts.0 + 1) (left_of (most - count) rdr))
  pub lines : taken.counts.0 + length (left_of (most - count) rdr) ≡ length all + 1
  pub bad : taken.counts.1 + count_by (is_bad columns) (left_of (most - count) rdr) ≡ count_by (is_bad columns) all

-- the records behind the first one
pub rows_behind : (text : List ℕ) (old new : TextReader) (fields : List (List ℕ))
    → left_of (length (strip_bom text) + 1) old ≡ text_records text → Took old new fields
    → drop 1 (text_records text) ≡ left_of (length (strip_bom text)) new
rows_behind text old new fields all took = ap (drop 1) (sym all ∙ took.left (length (strip_bom text)))

module _ (columns : List CsvColumn) (skips : Bool) (all : List (List (List ℕ))) (most : ℕ) where
  pub taking_none : (rdr : TextReader) (taken : Taken) → IsReading rdr → HasDocuments [] taken.rows → taken.counts ≡ (1, 0)
      → all ≡ left_of most rdr → IsTaking columns skips all most 0 rdr taken
  taking_none rdr taken reading rows one is =
      let whole : most ≡ most - 0 = omega arith in
      let same : all ≡ left_of (most - 0) rdr = is ∙ ap (λ n. left_of n rdr) whole in
      let line : taken.counts.0 ≡ 1 = ap (λ p. p.0) one in
      let none : taken.counts.1 ≡ 0 = ap (λ p. p.1) one in
      record {
        reading = reading;
        docs = [];
        rows = rows;
        read = both_none (documents_from columns skips first_number all)
            ∙ ap (λ rs. both (Ok []) (documents_from columns skips first_number rs)) same
            ∙ ap (λ n. both (Ok []) (documents_from columns skips (n + 1) (left_of (most - 0) rdr))) (sym line);
        lines = let long = ap length same in omega (arith, line, long);
        bad = let many = ap (count_by (is_bad columns)) same in omega (arith, none, many);
      }

  module _ (count : ℕ) (rdr : TextReader) (taken : Taken) (h : IsTaking columns skips all most count rdr taken) where
    -- none is left
    pub taking_all : left_of (most - count) rdr ≡ [] → HasTaken (documents_from columns skips first_number all) taken
    taking_all none = (
      h.docs,
      h.read ∙ ap (λ rows. both (Ok h.docs) (documents_from columns skips (taken.counts.0 + 1) rows)) none
          ∙ ap Ok (append-nil h.docs),
      h.rows,
    )

    pub counted_all : left_of (most - count) rdr ≡ [] → taken.counts ≡ counts_behind columns all
    counted_all none =
        let lines : taken.counts.0 + 0 ≡ length all + 1 = ap (λ rows. taken.counts.0 + length rows) (sym none) ∙ h.lines in
        let bad : taken.counts.1 + 0 ≡ count_by (is_bad columns) all =
        ap (λ rows. taken.counts.1 + count_by (is_bad columns) rows) (sym none) ∙ h.bad in
        ap₂ (λ a b. (a, b)) (omega (arith, lines)) (omega (arith, bad))

    nothing-past : most ≤ count → left_of (most - count) rdr ≡ []
    nothing-past past =
        let nothing : most - count ≡ 0 = omega (arith, past) in
        ap (λ n. left_of n rdr) nothing ∙ no_more rdr

    -- as many were taken as there may be
    pub taking_past : most ≤ count → HasTaken (documents_from columns skips first_number all) taken
    taking_past past = taking_all (nothing-past past)

    pub counted_past : most ≤ count → taken.counts ≡ counts_behind columns all
    counted_past past = counted_all (nothing-past past)

    module _ (within : count < most) (new : TextReader) (fields : List (List ℕ)) (took : Took rdr new fields) where
      -- what is behind the next record
      rest : Result (List Document) Stop
      rest = documents_from columns skips (taken.counts.0 + 1 + 1) (left_of (most - (count + 1)) new)

      -- what the next record is
      abbrev pub part : Result (List Document) Stop
      part = document_in skips (taken.counts.0 + 1) (document_of columns fields)

      left-cut : left_of (most - count) rdr ≡ fields ∷ left_of (most - (count + 1)) new
      left-cut =
          let more : most - count ≡ most - (count + 1) + 1 = omega (arith, within) in
          ap (λ n. left_of n rdr) more ∙ took.left (most - (count + 1))

      cut : documents_from columns skips first_number all ≡ both (Ok h.docs) (both part rest)
      unfolding rest
      cut =
          h.read ∙ ap (λ rows. both (Ok h.docs) (documents_from columns skips (taken.counts.0 + 1) rows)) left-cut

      -- a record more
      pub taking_more : (more : Taken) → TakesRecord taken more skips (document_of columns fields)
          → IsTaking columns skips all most (count + 1) new more
      unfolding rest
      taking_more more t =
          let line : more.counts.0 ≡ taken.counts.0 + 1 = ap (λ p. p.0) t.counts in
          record {
            reading = took.reading;
            docs = h.docs ++ t.more;
            rows = t.rows h.docs h.rows;
            read = cut ∙ ap (λ p. both (Ok h.docs) (both p rest)) t.read ∙ both_both h.docs t.more rest
                ∙ ap (λ n. both (Ok (h.docs ++ t.more)) (documents_from columns skips (n + 1) (left_of (most - (count + 1)) new)))
                (sym line);
            lines = counted_more taken.counts.0 more.counts.0 1 (length (left_of (most - count) rdr))
                (length (left_of (most - (count + 1)) new)) (length all + 1) h.lines
                (let long = ap length left-cut in omega (arith, long)) line;
            bad = counted_more taken.counts.1 more.counts.1 (bad_count (document_of columns fields))
                (count_by (is_bad columns) (left_of (most - count) rdr)) (count_by (is_bad columns) (left_of (most - (count + 1)) new))
                (count_by (is_bad columns) all) h.bad
                (ap (count_by (is_bad columns)) left-cut
                ∙ sum_by-cons (λ fs. bad_count (document_of columns fs)) fields (left_of (most - (count + 1)) new))
                (ap (λ p. p.1) t.counts);
          }

      -- one that stops
      pub taking_stopped : (e : LoadError) → IsStop e part → IsStop e (documents_from columns skips first_number all)
      taking_stopped e stop =
          stop_same e (documents_from columns skips first_number all) (both (Ok h.docs) (both part rest)) cut
          (stopped_both e h.docs part rest stop)
