-- The file of the columns that were put stands for the merged table.
use Rattle.std.proofs.Common.{◌≡◌, ◌⊎◌, inl, inr, ℕ, ◌<◌, ◌^◌, true, List, [], ◌∷◌, map, filter_map, length, Option, Some, None, IfSome, Result, Ok, Err, refl, sym, ap, ◌∙◌, subst, T}
use Rattle.std.specs.List.{AllByRecursion}
use Rattle.col_common.specs.Outside.{SeenSink, Appends}
use Rattle.col_common.specs.Serializing.{Serializes}
use Rattle.col_common.specs.declared.error.ColumnarError.{ColumnarError}
use Rattle.col_common.specs.declared.error.ColumnarError.TheVariants.{OutOfMemory, WriteFault}
use Rattle.col_model.specs.Category.{Slot, slot_cmp}
use Rattle.col_model.specs.File.{Part, part_of_column}
use Rattle.col_model.specs.Keys.{Key, is_name}
use Rattle.col_model.specs.Merge.{Required, joined_column, all_slots, required_refusal, row_counts, merged}
use Rattle.col_model.specs.Order.{Order, picks}
use Rattle.col_model.specs.Refusal.{Refusal, each_ok}
use Rattle.col_model.specs.Sound.{key_of_column}
use Rattle.col_model.specs.Spelling.{file_bytes}
use Rattle.col_model.specs.Table.{Column, Table}
use Rattle.col_model.proofs.DistinctLaws.{rises}
use Rattle.col_model.proofs.OrderedColumns.{EachIs, each-is, sorted-each}
use Rattle.col_model.proofs.SlotLaws.{column_slot}
use Rattle.col_model.proofs.SoundTables.{keys-of_slots}
use Rattle.col_keys.specs.Put.{AreKeys, HasColumns, part_put}
use Rattle.col_order.specs.Orders.{picks_of}
use Rattle.col_keys.proofs.StandLemmas.{same-keys, stands-for}
use Rattle.col_file.specs.Readers.{SeenReader, IsRead}
use Rattle.col_merge.specs.Merges.{AddsSlots, AddsTable}
use Rattle.col_merge.specs.Parts.{told_parts}
use Rattle.col_merge_plan.specs.Slots.{keys_read, counts_read, slots_by_keys}
use Rattle.col_merge.specs.Turns.{RefusesMerge, ArePutAs}
use Rattle.col_merge.proofs.JoinedLemmas.{joined-slot}
use Rattle.col_merge.proofs.MergedLemmas.{merged-slots, merged-table}
use Rattle.col_merge.proofs.PartLemmas.{ArePartsOf, AreNames, parts-told, counts-told, slots-told, slots-named}
use Rattle.col_merge.proofs.ReadingLemmas.{all_read-none}
use Rattle.col_merge.proofs.SlotReadLemmas.{slots-rise}
use Rattle.col_merge.proofs.TurnLemmas.{goes-itself, merge-refused}

-- ---- the keys

map-itself : (ss : List Slot) → map (λ s. s) ss ≡ ss
map-itself [] = refl
map-itself (s ∷ ss) = ap (λ r. s ∷ r) (map-itself ss)

module _ (f : Slot → Result (Option Column) Refusal) (own : (s : Slot) (c : Column) → f s ≡ Ok (Some c) → column_slot c ≡ s) where
  made-named : (ss : List Slot) (os : List (Option Column)) → AreNames ss → EachIs f ss os
      → AllByRecursion (λ k. is_name k.name ≡ true) (map key_of_column (filter_map (λ o. o) os))
  made-named [] [] names e = tt
  made-named [] (o ∷ os) names e = absurd e
  made-named (s ∷ ss) [] names e = absurd e
  made-named (s ∷ ss) (None ∷ os) names e = made-named ss os names.1 e.1
  made-named (s ∷ ss) (Some c ∷ os) names e = (ap (λ s. is_name s.name) (own s c e.0) ∙ names.0, made-named ss os names.1 e.1)

  -- the keys of the columns that were put are keys of one file
  pub are_keys-put : (n : ℕ) (ps : List (Key × List ℕ)) (ss : List Slot) (os : List (Option Column)) → AreNames ss
      → T (rises slot_cmp ss) → each_ok f ss ≡ Ok os
      → map (part_put n) ps ≡ map part_of_column (filter_map (λ o. o) os) → AreKeys (map (λ p. p.0) ps)
  are_keys-put n ps ss os names sorted e same =
      let cs = filter_map (λ o. o) os in
      let each = each-is f ss os e in
      let keyed = made-named ss os names each in
      let order = sorted-each f (λ s. s) own ss os (subst (λ ss. T (rises slot_cmp ss)) (sym (map-itself ss)) sorted) each in
      subst AreKeys (sym (same-keys n ps cs same)) record {
        names = keyed;
        ascend = keys-of_slots cs keyed order;
      }

-- ---- the whole

-- what is so of each list of parts that is told
pub told-each : {P : List Part → Type 0} (rs : List SeenReader)
    → ((parts : List Part) → told_parts rs ≡ Some parts → P parts) → IfSome (told_parts rs) P
told-each {P = P} rs f = by (told_parts rs) refl
  where
    by : (o : Option (List Part)) → told_parts rs ≡ o → IfSome o P
    by None e = tt
    by (Some parts) e = f parts e

-- what is known of the readers and of what is required
pub record IsMergeOf (rs : List SeenReader) (required : List Required) (order : Order) (n : ℕ) (slots : List Slot) : Type 0 where
  pub read : AllByRecursion IsRead rs
  pub picked : picks order (counts_read rs) ≡ Some (picks_of order)
  pub rows : n ≡ length (picks_of order)
  pub few : n < 2 ^ 32
  pub accepted : required_refusal [] required ≡ Ok tt
  pub names : AllByRecursion (λ r. is_name r.name ≡ true) required
  pub slots_are : slots ≡ slots_by_keys (keys_read rs) required

module _ (rs : List SeenReader) (required : List Required) (order : Order) (n : ℕ) (slots : List Slot)
    (is : IsMergeOf rs required order n slots) where
  -- the joined column of a slot
  abbrev joined : List Part → Slot → Result (Option Column) Refusal
  joined parts slot = joined_column order (picks_of order) parts required slot

  module _ (parts : List Part) (told : told_parts rs ≡ Some parts) where
    parts-are : ArePartsOf rs parts
    parts-are = parts-told rs parts is.read told

    parts-picked : picks order (row_counts parts) ≡ Some (picks_of order)
    parts-picked = ap (picks order) (counts-told rs parts parts-are) ∙ is.picked

    parts-few : length (picks_of order) < 2 ^ 32
    parts-few = subst (λ n. n < 2 ^ 32) is.rows is.few

    parts-slots : slots ≡ all_slots parts required
    parts-slots = is.slots_are ∙ slots-told rs parts required parts-are

    parts-refused : (refusal : Refusal) → each_ok (joined parts) slots ≡ Err refusal → merged parts required order ≡ Err refusal
    parts-refused refusal e =
        merged-slots parts required order (picks_of order) parts-picked parts-few is.accepted refusal
        (ap (each_ok (joined parts)) (sym parts-slots) ∙ e)

    parts-merged : (os : List (Option Column)) → each_ok (joined parts) slots ≡ Ok os
        → merged parts required order ≡ Ok (record { row_count = n; columns = filter_map (λ o. o) os })
    parts-merged os e =
        let table : ℕ → Table = λ n. record { row_count = n; columns = filter_map (λ o. o) os } in
        merged-table parts required order (picks_of order) parts-picked parts-few is.accepted os
        (ap (each_ok (joined parts)) (sym parts-slots) ∙ e) ∙ ap (λ n. Ok (table n)) (sym is.rows)

    parts-named : AreNames slots
    parts-named = subst AreNames (sym is.slots_are) (slots-named rs parts required parts-are is.names)

    parts-rise : T (rises slot_cmp slots)
    parts-rise = subst (λ ss. T (rises slot_cmp ss)) (sym is.slots_are) (slots-rise (keys_read rs) required)

    -- the file of the columns that were put
    file-added : (start end : SeenSink) (ps : List (Key × List ℕ)) (r : Result (List (Option Column)) Refusal)
        → each_ok (joined parts) slots ≡ r → ArePutAs n ps r → Appends start end (file_bytes n ps)
        → (AreKeys (map (λ p. p.0) ps) → HasColumns (file_bytes n ps) n ps)
        → AddsTable start end (merged parts required order)
    file-added start end ps (Ok os) e put added has = record {
      table = record { row_count = n; columns = filter_map (λ o. o) os };
      is = parts-merged os e;
      file = file_bytes n ps;
      added = added;
      stands =
          stands-for (file_bytes n ps) n ps (filter_map (λ o. o) os) (has (are_keys-put (joined parts)
          (joined-slot order (picks_of order) parts required) n ps slots os parts-named parts-rise e put)) put;
    }
    file-added start end ps (Err refusal) e put added has = absurd put

  told-added : (o : Option (List Part)) → told_parts rs ≡ o → (start end : SeenSink) (ps : List (Key × List ℕ))
      → IfSome o (λ parts. ArePutAs n ps (each_ok (joined parts) slots)) → Appends start end (file_bytes n ps)
      → (AreKeys (map (λ p. p.0) ps) → HasColumns (file_bytes n ps) n ps)
      → IfSome o (λ parts. AddsTable start end (merged parts required order))
  told-added None t start end ps put added has = tt
  told-added (Some parts) t start end ps put added has = file-added parts t start end ps (each_ok (joined parts) slots) refl put added has

  -- A file of the slots' columns was added.
  pub table-added : (start end : SeenSink) → AddsSlots rs start end n joined slots
      → IfSome (told_parts rs) (λ parts. AddsTable start end (merged parts required order))
  table-added start end h = told-added (told_parts rs) refl start end h.ps h.told h.added h.has

  -- the first slot that isn't merged
  pub table-refused : (news : List SeenReader) (start end : SeenSink) (e : ColumnarError)
      → RefusesMerge rs news start end e (λ parts. each_ok (joined parts) slots)
      → RefusesMerge rs news start end e (λ parts. merged parts required order)
  table-refused news start end e h =
      merge-refused (λ k. 0) rs rs news start start end (all_read-none (λ k. 0) rs) (goes-itself start)
      (λ parts. each_ok (joined parts) slots) (λ parts. merged parts required order)
      (λ refusal. told-each rs (λ parts t. parts-refused parts t refusal)) e h

-- the end of a file wasn't written
pub end-refused : {A : Type 0} (olds news : List SeenReader) (start end : SeenSink) (e : ColumnarError)
    (bytes : List ℕ) (expected : List Part → Result A Refusal) → Serializes start end (Err e) bytes
    → RefusesMerge olds news start end e expected
end-refused olds news start end e bytes expected h = by h.causes
  where
    by : (e ≡ OutOfMemory) ⊎ (e ≡ WriteFault) → RefusesMerge olds news start end e expected
    by (inl q) = subst (λ e. RefusesMerge olds news start end e expected) (sym q) tt
    by (inr q) = subst (λ e. RefusesMerge olds news start end e expected) (sym q) (h.write_fault (ap Err q))
