-- Entries of a file of which it is told, one after another, whether they are columns.
use Rattle.std.proofs.Common.{◌≡◌, ℕ, suc, ◌+◌, Bool, true, List, [], ◌∷◌, ◌++◌, map, length, take, slice_get, is_some, option_map, Option, Some, None, IfSome, refl, sym, ap, ap₂, ◌∙◌, subst, arith}
use Rattle.std.proofs.lemmas.List.{length-append, map_push}
use Rattle.std.proofs.lemmas.Option.{same_Some}
use Rattle.col_model.specs.Keys.{Entry, FileKeys}
use Rattle.col_model.specs.Table.{Content}
use Rattle.col_file.specs.Checks.{is_column}
use Rattle.col_file.specs.Columns.{content_at}
use Rattle.col_file.specs.Files.{IsExpected}
use Rattle.col_file.specs.Handles.{Handle, handle_of, is_at}
use Rattle.col_file.specs.Readers.{SeenReader, Reads}
use Rattle.col_file.proofs.ListLemmas.{take-next}
use Rattle.col_file.proofs.PartLemmas.{is_at-own, content-of_entry}
use Rattle.col_file.proofs.PlaceLemmas.{any-at}
use Rattle.col_file.proofs.ReadLemmas.{reads-none, reads-then}

-- ---- one handle

-- what opens is a column
pub some-opened : {T : Type 0} (IsOf : Content → T → Type 0) (made : T) (told : Option (List ℕ)) (k : FileKeys) (h : Handle)
    → IfSome told (λ bytes. IsExpected IsOf made (content_at k h bytes))
    → IfSome told (λ bytes. true ≡ is_some (content_at k h bytes))
some-opened IsOf made None k h opened = tt
some-opened IsOf made (Some bytes) k h opened = by (content_at k h bytes) opened
  where
    by : (o : Option Content) → IsExpected IsOf made o → true ≡ is_some o
    by None opened = absurd opened
    by (Some content) opened = refl

-- ---- all entries

-- What was told of the entries before a place, of a reader as it was at first.
pub record ChecksFrom (old now : SeenReader) (place : ℕ) (made : List Bool) : Type 0 where
  pub so_far : IfSome old.file.told (λ bytes. made ≡ map (is_column bytes old.keys) (take place old.keys.entries))
  pub many : length made ≡ place
  pub reads : Reads place old now

-- before the first entry nothing is told
pub checks-none : (r : SeenReader) (made : List Bool) → made ≡ [] → ChecksFrom r r 0 made
checks-none r made none = record { so_far = at r.file.told; many = ap length none; reads = reads-none 0 r }
  where
    at : (o : Option (List ℕ)) → IfSome o (λ bytes. made ≡ map (is_column bytes r.keys) (take 0 r.keys.entries))
    at None = tt
    at (Some bytes) = none

-- what the handle at a place opens tells of the entry there
told-next : (bytes : List ℕ) (k : FileKeys) (place : ℕ) (h : Handle) (whole : Bool) (made : List Bool)
    → option_map handle_of (slice_get k.entries place) ≡ Some h → whole ≡ is_some (content_at k h bytes)
    → made ≡ map (is_column bytes k) (take place k.entries)
    → made ++ whole ∷ [] ≡ map (is_column bytes k) (take (suc place) k.entries)
told-next bytes k place h whole made found is was = by (slice_get k.entries place) refl found
  where
    by : (o : Option Entry) → slice_get k.entries place ≡ o → option_map handle_of o ≡ Some h
        → made ++ whole ∷ [] ≡ map (is_column bytes k) (take (suc place) k.entries)
    by None at e = cc
    by (Some x) at e =
        let entry = any-at (is_at (handle_of x)) k.entries place x at (is_at-own x) in
        let told : whole ≡ is_column bytes k x =
        is ∙ ap (λ g. is_some (content_at k g bytes)) (sym (same_Some (handle_of x) h e))
        ∙ ap is_some (content-of_entry bytes k x entry) in
        ap₂ (λ front one. front ++ one ∷ []) was told
        ∙ sym (map_push (is_column bytes k) (take place k.entries) x)
        ∙ ap (map (is_column bytes k)) (sym (take-next k.entries place x at))

module _ (old now next : SeenReader) (place : ℕ) (made : List Bool) (was : ChecksFrom old now place made) (kept : Reads 1 now next) where
  -- one more is told
  pub checks-more : (h : Handle) (whole : Bool) (grown : List Bool) → grown ≡ made ++ whole ∷ []
      → option_map handle_of (slice_get now.keys.entries place) ≡ Some h
      → IfSome now.file.told (λ bytes. whole ≡ is_some (content_at now.keys h bytes))
      → ChecksFrom old next (place + 1) grown
  checks-more h whole grown pushed found is = record {
    so_far =
        at old.file.told (subst (λ o. IfSome o (λ bytes. whole ≡ is_some (content_at old.keys h bytes))) was.reads.file.told
        (subst (λ (k : FileKeys). IfSome now.file.told (λ bytes. whole ≡ is_some (content_at k h bytes))) was.reads.keys is))
        was.so_far;
    many = ap length pushed ∙ length-append made (whole ∷ []) ∙ ap (λ n. n + 1) was.many;
    reads = reads-then place 1 old now next was.reads kept;
  }
    where
      here : option_map handle_of (slice_get old.keys.entries place) ≡ Some h
      here = subst (λ (k : FileKeys). option_map handle_of (slice_get k.entries place) ≡ Some h) was.reads.keys found

      on : suc place ≡ place + 1
      on = omega arith

      at : (o : Option (List ℕ)) → IfSome o (λ bytes. whole ≡ is_some (content_at old.keys h bytes))
          → IfSome o (λ bytes. made ≡ map (is_column bytes old.keys) (take place old.keys.entries))
          → IfSome o (λ bytes. grown ≡ map (is_column bytes old.keys) (take (place + 1) old.keys.entries))
      at None told s = tt
      at (Some bytes) told s =
          pushed ∙ told-next bytes old.keys place h whole made here told s
          ∙ ap (λ n. map (is_column bytes old.keys) (take n old.keys.entries)) on
