-- What each line makes of a script, whichever lines are behind it.
use Rattle.std.proofs.Common.{◌≡◌, ℕ, suc, true, false, ◌&&◌, List, [], ◌∷◌, ◌++◌, length, map, filter_map, Option, Some, None, Result, Ok, Err, refl, sym, ◌∙◌, ap, arith, append_assoc}
use Rattle.std.specs.Prelude.{◌==◌, nat_le}
use Rattle.std.specs.Option.{option_to_list}
use Rattle.std.proofs.lemmas.Bool.{and_right, lt-leb, ne_eqb}
use Rattle.std.proofs.lemmas.List.{append-nil}
use Rattle.col_model.specs.Merge.{Required}
use Rattle.col_model.specs.Recording.{Call, content_after, content_after_all}
use Rattle.col_model.specs.Refusal.{Refusal, ◌>>=◌}
use Rattle.col_model.specs.Written.{Recorded}
use Rattle.col_program.specs.Script.{Question, Line, RowOrder, segment, call, require, order, ask, segments_in, required_in, order_in, question_in}
use Rattle.col_script.specs.Segments.{RecordedContent, Filled, filled, answered, content_behind, content_behind_all, after_call, after_calls}
use Rattle.col_script.specs.Scripts.{summary_with, summary_from, has_segment, last_with}

-- ---- calls

-- no calls change nothing
behind-none : (c : RecordedContent) → content_behind_all c [] ≡ c
behind-none (Ok w) = refl
behind-none (Err e) = refl

after-none : (f : Filled) → after_calls f [] ≡ f
after-none f = ap (λ c. record { count = f.count; content = c }) (behind-none f.content)

-- the first call and the others
behind-call : (k : RecordedContent) (c : Call) (cs : List Call) → content_behind_all k (c ∷ cs) ≡ content_behind_all (content_behind k c) cs
behind-call (Err e) c cs = refl
behind-call (Ok w) c cs = go (content_after w c)
  where
    go : (r : Result Recorded Refusal) → answered (r >>= λ next. content_after_all next cs) ≡ content_behind_all (answered r) cs
    go (Ok v) = refl
    go (Err e) = refl

after-one : (f : Filled) (c : Call) (cs : List Call) → after_calls f (c ∷ cs) ≡ after_calls (after_call f c) cs
after-one f c cs = ap (λ k. record { count = f.count; content = k }) (behind-call f.content c cs)

module _ (earlier : List Filled) (required : List Required) (orders : List RowOrder) (questions : List Question) where
  -- ---- a segment line

  -- a line of a segment puts the last segment to the earlier ones, and begins another
  pub with-segment : (last : Option Filled) (n : ℕ) (ls : List Line)
      → summary_with (record { earlier = earlier; last = last; required = required; orders = orders; questions = questions })
      (segment n ∷ ls)
      ≡ summary_with (record {
        earlier = earlier ++ option_to_list last;
        last = Some (record { count = n; content = Ok [] });
        required = required;
        orders = orders;
        questions = questions;
      })
      ls
  unfolding summary_with
  with-segment None n ls =
      ap (λ es. summary_from true
      (es ++ filled (record { count = n; calls = (segments_in ls).0 }) ∷ map filled (segments_in ls).1)
      (required ++ filter_map required_in ls) (orders ++ filter_map order_in ls)
      (questions ++ filter_map question_in ls)) (sym (append-nil earlier))
  with-segment (Some f) n ls =
      let more : List Filled = filled (record { count = n; calls = (segments_in ls).0 }) ∷ map filled (segments_in ls).1 in
      ap (λ fs. summary_from true fs (required ++ filter_map required_in ls) (orders ++ filter_map order_in ls)
      (questions ++ filter_map question_in ls))
      (ap (λ g. earlier ++ g ∷ more) (after-none f) ∙ sym (append_assoc earlier (f ∷ []) more))

  -- ---- a record call

  -- a call before the first segment makes no script
  pub with-early : (c : Call) (ls : List Line)
      → summary_with (record { earlier = earlier; last = None; required = required; orders = orders; questions = questions })
      (call c ∷ ls) ≡ None
  unfolding summary_with
  with-early c ls =
      let some : (suc (length (segments_in ls).0) == 0) ≡ false = ne_eqb _ 0 (λ e. absurd (omega arith)) in
      rw some refl

  -- a call behind a segment changes what this segment holds
  pub with-call : (f : Filled) (c : Call) (ls : List Line)
      → summary_with (record { earlier = earlier; last = Some f; required = required; orders = orders; questions = questions })
      (call c ∷ ls)
      ≡ summary_with (record {
        earlier = earlier;
        last = Some (after_call f c);
        required = required;
        orders = orders;
        questions = questions;
      })
      ls
  unfolding summary_with
  with-call f c ls =
      ap (λ g. summary_from true (earlier ++ g ∷ map filled (segments_in ls).1)
      (required ++ filter_map required_in ls) (orders ++ filter_map order_in ls) (questions ++ filter_map question_in ls))
      (after-one f c (segments_in ls).0)

  module _ (last : Option Filled) where
    -- ---- a required column

    -- a line of a required column puts it behind those before
    pub with-required : (r : Required) (ls : List Line)
        → summary_with (record { earlier = earlier; last = last; required = required; orders = orders; questions = questions })
        (require r ∷ ls)
        ≡ summary_with (record { earlier = earlier; last = last; required = required ++ r ∷ []; orders = orders; questions = questions }) ls
    unfolding summary_with
    with-required r ls =
        ap (λ rs. summary_from (has_segment last (segments_in ls).0)
        (earlier ++ (last_with last (segments_in ls).0 ++ map filled (segments_in ls).1)) rs
        (orders ++ filter_map order_in ls) (questions ++ filter_map question_in ls))
        (sym (append_assoc required (r ∷ []) (filter_map required_in ls)))

    -- ---- a question

    -- a line of a question puts it behind those before
    pub with-question : (f : Question) (ls : List Line)
        → summary_with (record { earlier = earlier; last = last; required = required; orders = orders; questions = questions }) (ask f ∷ ls)
        ≡ summary_with (record { earlier = earlier; last = last; required = required; orders = orders; questions = questions ++ f ∷ [] }) ls
    unfolding summary_with
    with-question f ls =
        ap (λ fs. summary_from (has_segment last (segments_in ls).0)
        (earlier ++ (last_with last (segments_in ls).0 ++ map filled (segments_in ls).1))
        (required ++ filter_map required_in ls) (orders ++ filter_map order_in ls) fs)
        (sym (append_assoc questions (f ∷ []) (filter_map question_in ls)))

module _ (earlier : List Filled) (last : Option Filled) (required : List Required) (questions : List Question) where
  -- ---- an order

  -- the first line of an order is the order
  pub with-order : (o : RowOrder) (ls : List Line)
      → summary_with (record { earlier = earlier; last = last; required = required; orders = []; questions = questions }) (order o ∷ ls)
      ≡ summary_with (record { earlier = earlier; last = last; required = required; orders = o ∷ []; questions = questions }) ls
  unfolding summary_with
  with-order o ls = refl

  -- a second line of an order makes no script
  pub with-second : (first o : RowOrder) (ls : List Line)
      → summary_with
      (record { earlier = earlier; last = last; required = required; orders = first ∷ []; questions = questions })
      (order o ∷ ls) ≡ None
  unfolding summary_with
  with-second first o ls =
      let two : nat_le (suc (suc (length (filter_map order_in ls)))) 1 ≡ false =
      lt-leb (suc (suc (length (filter_map order_in ls)))) 1 (omega arith) in
      let bad : (has_segment last (segments_in ls).0 && nat_le (suc (suc (length (filter_map order_in ls)))) 1) ≡
      false = and_right (has_segment last (segments_in ls).0) _ two in
      rw bad refl

  -- ---- no more lines

  module _ (earlier_last : List Filled) where
    ended : (o : Option RowOrder) (rs : List Required) (fs : List Question) → rs ≡ required → fs ≡ questions
        → summary_from true earlier_last rs (option_to_list o ++ []) fs
        ≡ Some (record { segments = earlier_last; required = required; order = o; questions = questions })
    ended None rs fs r f = rw (r, f) refl
    ended (Some o) rs fs r f = rw (r, f) refl

  -- where no line is left, the parts are the script
  pub with-nothing : (o : Option RowOrder)
      → summary_with (record { earlier = earlier; last = last; required = required; orders = option_to_list o; questions = questions }) []
      ≡ Some (record { segments = earlier ++ option_to_list last; required = required; order = o; questions = questions })
  unfolding summary_with
  with-nothing o =
      go last ∙ ended (earlier ++ option_to_list last) o (required ++ []) (questions ++ []) (append-nil required)
      (append-nil questions)
    where
      go : (l : Option Filled) → summary_from (has_segment l []) (earlier ++ (last_with l [] ++ []))
          (required ++ []) (option_to_list o ++ []) (questions ++ [])
          ≡ summary_from true (earlier ++ option_to_list l) (required ++ []) (option_to_list o ++ []) (questions ++ [])
      go None = refl
      go (Some f) = ap (λ g. summary_from true (earlier ++ g ∷ []) (required ++ []) (option_to_list o ++ []) (questions ++ []))
          (after-none f)
