-- What is seen of the fields of records, one after another.
use Rattle.std.proofs.Common.{◌≡◌, ◌∙◌, ◌+◌, ◌-◌, ◌<◌, ℕ, Bool, true, false, cond, List, [], ◌∷◌, map, length, replicate, get_or, refl, sym, ap, arith}
use Rattle.std.specs.Result.{is_ok}
use Rattle.std.proofs.lemmas.List.{get_or-replicate, length-replicate}
use Rattle.col_load_csv.specs.Columns.{CsvColumn, document_of}
use Rattle.col_load_csv.specs.Documents.{taken, texts_at}
use Rattle.col_load_csv.specs.Readers.{IsReading, TextReader, Took, left_of}
use Rattle.col_load_csv.specs.Seen.{merged, seen_of}
use Rattle.col_load_csv.specs.Sights.{AreSeen, SeesRecord, SeesWhere, sight_at}
use Rattle.col_load_csv.specs.declared.seen.Seen.{Seen}
use Rattle.col_load_csv.proofs.ReaderLemmas.{no_more}
use Rattle.col_load_csv.proofs.SightLemmas.{merged_none, sight_more}

-- what is seen, with the records that are left, is what is seen of all
pub record HasSeen (columns : List CsvColumn) (count : ℕ) (all : List (List (List ℕ))) (rdr : TextReader) (left : ℕ) (seen : List Seen)
    : Type 0 where
  pub reading : IsReading rdr
  pub many : length seen ≡ count
  pub same : (i : ℕ) → i < count
      → merged (sight_at seen i) (seen_of (texts_at i (taken columns (left_of left rdr)))) ≡ seen_of (texts_at i (taken columns all))

module _ (columns : List CsvColumn) (count : ℕ) where
  pub seen_none : (rdr : TextReader) (most : ℕ) (seen : List Seen) → IsReading rdr → seen ≡ replicate count (seen_of [])
      → HasSeen columns count (left_of most rdr) rdr (most - 0) seen
  seen_none rdr most seen reading is =
      let whole : most - 0 ≡ most = omega arith in
      record {
        reading = reading;
        many = ap length is ∙ length-replicate count (seen_of []);
        same = λ i within.
            ap (λ xs. merged (sight_at xs i) (seen_of (texts_at i (taken columns (left_of (most - 0) rdr))))) is
            ∙ ap (λ s. merged s (seen_of (texts_at i (taken columns (left_of (most - 0) rdr)))))
            (get_or-replicate count i (seen_of []) (seen_of []) within)
            ∙ ap (λ n. seen_of (texts_at i (taken columns (left_of n rdr)))) whole;
      }

  module _ (all : List (List (List ℕ))) (rdr : TextReader) (left : ℕ) (seen : List Seen) (h : HasSeen columns count all rdr left seen) where
    -- none is left
    pub seen_all : left_of left rdr ≡ [] → AreSeen (taken columns all) seen
    seen_all none = λ i within.
        sym (merged_none (sight_at seen i))
        ∙ ap (λ rows. merged (sight_at seen i) (seen_of (texts_at i (taken columns rows)))) (sym none)
        ∙ h.same i (let many = h.many in omega (arith, many, within))

    -- as many were seen as there may be
    pub seen_past : left ≡ 0 → AreSeen (taken columns all) seen
    seen_past nothing = seen_all (ap (λ n. left_of n rdr) nothing ∙ no_more rdr)

    -- a record more
    pub seen_more : (new : TextReader) (next : ℕ) (fields : List (List ℕ)) (more : List Seen) → left ≡ next + 1 → Took rdr new fields
        → SeesRecord columns fields seen more → HasSeen columns count all new next more
    seen_more new next fields more is took sees = by (is_ok (document_of columns fields)) refl sees
      where
        rest : List (List (List ℕ))
        rest = left_of next new

        was : left_of left rdr ≡ fields ∷ left_of next new
        was = ap (λ n. left_of n rdr) is ∙ took.left next

        by : (b : Bool) → is_ok (document_of columns fields) ≡ b → SeesWhere b fields seen more
            → HasSeen columns count all new next more
        by true good s = record {
          reading = took.reading;
          many = s.many ∙ h.many;
          same = λ i within.
              ap (λ x. merged x (seen_of (texts_at i (taken columns (left_of next new)))))
              (s.seen i (let many = h.many in omega (arith, many, within)))
              ∙ sym (sight_more (sight_at seen i) (get_or fields i []) (map (λ fs. get_or fs i []) (taken columns (left_of next new))))
              ∙ ap (λ rows. merged (sight_at seen i) (seen_of (texts_at i rows)))
              (ap (λ b. cond b (fields ∷ taken columns (left_of next new)) (taken columns (left_of next new))) (sym good)
              ∙ ap (taken columns) (sym was))
              ∙ h.same i within;
        }
        by false bad s = record {
          reading = took.reading;
          many = ap length s ∙ h.many;
          same = λ i within.
              ap (λ xs. merged (sight_at xs i) (seen_of (texts_at i (taken columns (left_of next new))))) s
              ∙ ap (λ rows. merged (sight_at seen i) (seen_of (texts_at i rows)))
              (ap (λ b. cond b (fields ∷ taken columns (left_of next new)) (taken columns (left_of next new))) (sym bad)
              ∙ ap (taken columns) (sym was))
              ∙ h.same i within;
        }
