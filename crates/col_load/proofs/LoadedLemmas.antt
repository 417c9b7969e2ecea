-- Texts that were loaded, or stopped.
use Rattle.std.proofs.Common.{◌≡◌, ℕ, Bool, List, [], Result, Ok, Err, refl, sym, ap, ◌∙◌, subst, inl}
use Rattle.col_common.specs.Outside.{SeenSink}
use Rattle.col_documents.specs.Documents.{Field}
use Rattle.col_documents.specs.Forms.{Forms}
use Rattle.col_documents.specs.Read.{refusal_read}
use Rattle.col_model.specs.Table.{Table}
use Rattle.col_load.specs.Files.{LoadsFile}
use Rattle.col_load.specs.Loads.{Document, Stop, bad_line, too_many, lines_of, documents_from, documents_of, table_of_documents, table_of_read, table_of_lines}
use Rattle.col_load.specs.Loading.{HasTaken, IsStop, forms_of}
use Rattle.col_load.specs.Rows.{HasDocuments}
use Rattle.col_load.specs.declared.load_error.LoadError.{LoadError}
use Rattle.col_load.specs.declared.load_error.LoadError.TheVariants.{OutOfMemory, BadLine, TooMany, Columnar}
use Rattle.col_load.specs.declared.loader.Loader.{Loader}
use Rattle.col_load.proofs.FileLemmas.{loads_none}

module _ (forms : Forms) (skips : Bool) (text : List ℕ) where
  by-read : (r : Result (List Document) Stop) → documents_of forms skips text ≡ r → table_of_lines forms skips text ≡ table_of_read r
  unfolding table_of_lines
  by-read r is = ap table_of_read is

  -- want of memory adds nothing
  no_memory : (a : SeenSink) (expected : Result Table Stop) → LoadsFile a a (Err OutOfMemory) expected
  no_memory a expected = record {
    table = λ t is. record { file = []; stands = tt; added = tt; causes = inl refl };
    stop = λ s is. (refl, (OutOfMemory, refl, tt));
  }

  -- a stop of the lines
  pub stop_told : (a : SeenSink) (e : LoadError) → IsStop e (documents_of forms skips text)
      → LoadsFile a a (Err e) (table_of_lines forms skips text)
  stop_told a OutOfMemory is = no_memory a (table_of_lines forms skips text)
  stop_told a (BadLine n r) is =
      subst (LoadsFile a a (Err (BadLine n r))) (sym (by-read (Err (bad_line n (refusal_read r))) is))
      (loads_none a a (Err (BadLine n r)) (bad_line n (refusal_read r)) refl (BadLine n r) refl refl)
  stop_told a TooMany is =
      subst (LoadsFile a a (Err TooMany)) (sym (by-read (Err too_many) is))
      (loads_none a a (Err TooMany) too_many refl TooMany refl refl)
  stop_told a (Columnar e) is = absurd is

  -- the documents of a loader that took all lines
  pub loaded : (a b : SeenSink) (result : Result (Unit {0}) LoadError) (loader : Loader) → forms_of loader ≡ forms → loader.skips ≡ skips
      → HasTaken (lines_of text) loader
      → ((docs : List (List Field)) → HasDocuments docs loader.rows → LoadsFile a b result (table_of_documents docs))
      → LoadsFile a b result (table_of_lines forms skips text)
  loaded a b result loader same kept taken writes =
      let lines = lines_of text in
      subst (LoadsFile a b result) (sym (by-read (Ok taken.docs) (ap (λ fs. documents_from fs skips 1 lines) (sym same)
      ∙ ap (λ s. documents_from (forms_of loader) s 1 lines) (sym kept) ∙ taken.read)))
      (writes taken.docs taken.rows)
