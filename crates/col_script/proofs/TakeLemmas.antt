-- What a draft makes of a line, and of the end of the lines.
use Rattle.std.proofs.Common.{◌≡◌, ℕ, Bool, true, false, List, [], ◌∷◌, ◌++◌, map, Option, Some, None, Ok, is_some, option_map, Vec, Global, String, refl, sym, ◌∙◌, ap}
use Rattle.std.specs.Prelude.{◌==◌}
use Rattle.std.specs.Option.{option_to_list}
use Rattle.std.specs.List.{slice_split}
use Rattle.std.proofs.lemmas.Bool.{true≢false}
use Rattle.std.proofs.lemmas.List.{map-append}
use Rattle.col_common.specs.Reading.{◌>>=◌, only_if}
use Rattle.col_model.specs.File.{for_each}
use Rattle.col_model.specs.Recording.{Call}
use Rattle.col_program.specs.Script.{Line, segment, call, require, order, ask, line_spelled, pieces_of, script_of, script_of_lines, segments_in, required_in, order_in, question_in}
use Rattle.col_program.specs.Script as model
use Rattle.col_types.specs.declared.column_type.ColumnType as declared_types
use Rattle.col_questions.specs.Questions.{question_of}
use Rattle.col_questions.specs.declared.question.Question.{Question}
use Rattle.col_lines.specs.Lines.{required_column_of}
use Rattle.col_lines.specs.RowOrders.{row_order_of}
use Rattle.col_lines.specs.declared.row_order.RowOrder.{RowOrder}
use Rattle.col_script.specs.Segments.{Filled, segment_of, after_call}
use Rattle.col_script.specs.Scripts.{DraftParts, no_parts, draft_parts, summary, summary_of, summary_with, summary_behind, TakesLine}
use Rattle.col_script.specs.declared.segment.Segment.{Segment}
use Rattle.col_script.specs.declared.draft.Draft.{Draft}
use Rattle.col_script.specs.declared.script.Script.{Script}
use Rattle.col_script.proofs.DraftLemmas.{with-segment, with-early, with-call, with-required, with-question, with-order, with-second, with-nothing}

-- ---- the segments

-- the last segment behind the others
list_of_last : (l : Option Segment) → map segment_of (option_to_list l) ≡ option_to_list (option_map segment_of l)
list_of_last None = refl
list_of_last (Some s) = refl

all_segments : (es : List Segment) (l : Option Segment)
    → map segment_of (es ++ option_to_list l) ≡ map segment_of es ++ option_to_list (option_map segment_of l)
all_segments es l = map-append segment_of es (option_to_list l) ∙ ap (λ fs. map segment_of es ++ fs) (list_of_last l)

module _ (old : Draft) where
  -- the parts with other segments
  abbrev with_segments : List Filled → Option Filled → DraftParts
  with_segments es l = record {
    earlier = es;
    last = l;
    required = (draft_parts old).required;
    orders = (draft_parts old).orders;
    questions = (draft_parts old).questions;
  }

  -- ---- a segment line

  -- a draft takes a segment's line with the last one among the earlier ones, and the new one last
  pub takes-segment : (earlier : Vec Segment Global) (last : Option Segment) (s : Segment) (n : ℕ)
      → earlier.items ≡ old.earlier.items ++ option_to_list old.last → last ≡ Some s
      → segment_of s ≡ record { count = n; content = Ok [] }
      → TakesLine (segment n) old
      (record { earlier = earlier; last = last; required = old.required; order = old.order; questions = old.questions })
      true
  takes-segment earlier last s n all is new ls =
      let p = draft_parts old in
      with-segment p.earlier p.required p.orders p.questions p.last n ls
      ∙ ap (λ es. summary_with (with_segments es (Some (record { count = n; content = Ok [] }))) ls)
      (sym (ap (map segment_of) all ∙ all_segments old.earlier.items old.last))
      ∙ ap (λ f. summary_with (with_segments (map segment_of earlier.items) (Some f)) ls) (sym new)
      ∙ ap (λ l. summary_with (with_segments (map segment_of earlier.items) (option_map segment_of l)) ls) (sym is)

  -- ---- a record call

  -- a draft without a segment doesn't take a call
  pub takes-no_call : (new : Draft) (c : Call) → old.last ≡ None → TakesLine (call c) old new false
  takes-no_call new c none ls =
      let p = draft_parts old in
      ap (λ l. summary_with (with_segments p.earlier (option_map segment_of l)) (call c ∷ ls)) none
      ∙ with-early p.earlier p.required p.orders p.questions c ls

  -- a draft with a segment takes a call into it
  pub takes-call : (s t : Segment) (c : Call) → old.last ≡ Some s → segment_of t ≡ after_call (segment_of s) c
      → TakesLine (call c) old (record
      { earlier = old.earlier; last = Some t; required = old.required; order = old.order; questions = old.questions })
      true
  takes-call s t c some after ls =
      let p = draft_parts old in
      ap (λ l. summary_with (with_segments p.earlier (option_map segment_of l)) (call c ∷ ls)) some
      ∙ with-call p.earlier p.required p.orders p.questions (segment_of s) c ls
      ∙ ap (λ f. summary_with (with_segments p.earlier (Some f)) ls) (sym after)

  -- ---- a required column and a question

  -- a draft takes a required column behind those before
  pub takes-required : (more : Vec (String Global × declared_types.ColumnType) Global)
      (r : String Global × declared_types.ColumnType) → more.items ≡ old.required.items ++ r ∷ []
      → TakesLine (require (required_column_of r)) old
      (record { earlier = old.earlier; last = old.last; required = more; order = old.order; questions = old.questions })
      true
  takes-required more r all ls =
      let p = draft_parts old in
      with-required p.earlier p.required p.orders p.questions p.last (required_column_of r) ls
      ∙ ap (λ rs. summary_with
      (record { earlier = p.earlier; last = p.last; required = rs; orders = p.orders; questions = p.questions }) ls)
      (sym (ap (map required_column_of) all ∙ map-append required_column_of old.required.items (r ∷ [])))

  -- a draft takes a question behind those before
  pub takes-question : (more : Vec Question Global) (f : Question) → more.items ≡ old.questions.items ++ f ∷ []
      → TakesLine (ask (question_of f)) old (record
      { earlier = old.earlier; last = old.last; required = old.required; order = old.order; questions = more }) true
  takes-question more f all ls =
      let p = draft_parts old in
      with-question p.earlier p.required p.orders p.questions p.last (question_of f) ls
      ∙ ap (λ fs. summary_with
      (record { earlier = p.earlier; last = p.last; required = p.required; orders = p.orders; questions = fs }) ls)
      (sym (ap (map question_of) all ∙ map-append question_of old.questions.items (f ∷ [])))

  -- ---- an order

  -- the parts with this order
  abbrev with_order : Option RowOrder → DraftParts
  with_order o = record {
    earlier = (draft_parts old).earlier;
    last = (draft_parts old).last;
    required = (draft_parts old).required;
    orders = option_to_list (option_map row_order_of o);
    questions = (draft_parts old).questions;
  }

  -- a draft without an order takes one
  pub takes-order : (next : RowOrder) → is_some old.order ≡ false
      → TakesLine (order (row_order_of next)) old (record
      { earlier = old.earlier; last = old.last; required = old.required; order = Some next; questions = old.questions })
      true
  takes-order next none ls = go old.order none
    where
      go : (o : Option RowOrder) → is_some o ≡ false
          → summary_with (with_order o) (order (row_order_of next) ∷ ls) ≡ summary_with (with_order (Some next)) ls
      go None e = let p = draft_parts old in with-order p.earlier p.last p.required p.questions (row_order_of next) ls
      go (Some first) e = absurd (true≢false e)

  -- a draft with an order doesn't take another
  pub takes-second : (new : Draft) (next : RowOrder) → is_some old.order ≡ true → TakesLine (order (row_order_of next)) old new false
  takes-second new next some ls = go old.order some
    where
      go : (o : Option RowOrder) → is_some o ≡ true → summary_with (with_order o) (order (row_order_of next) ∷ ls) ≡ None
      go None e = absurd (true≢false (sym e))
      go (Some first) e =
          let p = draft_parts old in
          with-second p.earlier p.last p.required p.questions (row_order_of first) (row_order_of next) ls

  -- ---- no more lines

  -- where no line is left, the script is made of the draft's parts
  pub ends : (s : Script) → s.segments.items ≡ old.earlier.items ++ option_to_list old.last
      → s.required ≡ old.required → s.order ≡ old.order → s.questions ≡ old.questions
      → summary_with (draft_parts old) [] ≡ Some (summary_of s)
  ends s all required same_order questions =
      let p = draft_parts old in
      let same : map segment_of s.segments.items ≡ p.earlier ++ option_to_list p.last =
      ap (map segment_of) all ∙ all_segments old.earlier.items old.last in
      rw (same, required, same_order, questions) (with-nothing p.earlier p.last p.required p.questions (option_map row_order_of old.order))

-- ---- the whole script

starts : (b : Bool) (s : model.Script) → (option_map summary (only_if b s)) ≡ only_if b (summary s)
starts true s = refl
starts false s = refl

-- before any line
pub begins : (bytes : List ℕ) → summary_behind no_parts (slice_split (λ b. b == 10) bytes) ≡ option_map summary (script_of bytes)
unfolding script_of summary_with
begins bytes = go (for_each line_spelled (pieces_of bytes))
  where
    go : (o : Option (List Line)) → (o >>= summary_with no_parts) ≡ option_map summary (o >>= script_of_lines)
    go None = refl
    go (Some ls) = sym (starts _ _)
