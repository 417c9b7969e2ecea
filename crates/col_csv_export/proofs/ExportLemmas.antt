-- What writing a table as CSV answers.
use Rattle.std.proofs.Common.{◌≡◌, ◌∙◌, ℕ, Bool, true, false, List, Some, refl, sym, ap, subst}
use Rattle.std.specs.List.{list_any}
use Rattle.col_common.specs.Outside.{SeenSink, Appends}
use Rattle.col_model.specs.Table.{Column, Table}
use Rattle.col_csv.specs.Csv.{csv_of, is_multivalued_column, records_of, records_text}
use Rattle.col_csv_export.specs.Exports.{AddsText, IsNotFlat}

-- a column that is Multivalued was found
pub not-flat : (a : SeenSink) (t : Table) (cs : List Column) (found : Bool) → cs ≡ t.columns
    → found ≡ list_any is_multivalued_column cs → found ≡ true → IsNotFlat a a (Some t)
not-flat a t cs found same is set = record {
  table = t;
  is = refl;
  many = ap (list_any is_multivalued_column) (sym same) ∙ sym is ∙ set;
  same = refl;
}

-- none was found, and the records were written
pub text-added : (a b : SeenSink) (t : Table) (cs : List Column) (n : ℕ) (found : Bool) → t.row_count ≡ n → cs ≡ t.columns
    → found ≡ list_any is_multivalued_column cs → found ≡ false → Appends a b (records_text (records_of cs n))
    → AddsText a b (Some t)
unfolding csv_of
text-added a b t cs n found rows same is unset added = record {
  table = t;
  is = refl;
  few = ap (list_any is_multivalued_column) (sym same) ∙ sym is ∙ unset;
  added = subst (λ cs. Appends a b (records_text (records_of cs t.row_count))) same
      (subst (λ m. Appends a b (records_text (records_of cs m))) (sym rows) added);
}
