-- Parts of the bytes of rows in runs.
use Rattle.std.proofs.Common.{◌≡◌, ℕ, ◌^◌, ◌&&◌, nat_lt, Bool, List, Option, Some, None, refl, sym, ◌∙◌, ap, subst, true, false}
use Rattle.std.specs.Int.{w64}
use Rattle.std.proofs.lemmas.Option.{option_and_then_some, cond_some}
use Rattle.col_common.specs.Reading.{◌>>=◌, only_if, parts_by_first}
use Rattle.col_common.specs.VInt.{vint}
use Rattle.col_model.specs.Index.{RowSet, run_set, run_rows, are_runs}
use Rattle.col_model.specs.U64List.{values64}
use Rattle.col_model.proofs.ItemLaws.{only_if-none}
use Rattle.col_index.specs.Opening.{row_count_at}
use Rattle.col_index.specs.Runs.{runs_by}

-- the rows of runs, where their count passed the test and they are runs
abbrev tested : Bool → ℕ → List ℕ → List ℕ → Option RowSet
tested fits n starts lengths =
    only_if (fits && are_runs n starts lengths) (record { num_rows = n; rows = run_rows starts lengths })

-- the same by the bytes of both lists
abbrev read : Bool → ℕ → List ℕ → Option RowSet
read fits n rest = parts_by_first w64 rest >>= λ parts. values64 parts.0 >>= λ starts. values64 parts.1 >>= tested fits n starts

-- the runs behind their count
run_set-counted : (bytes rest : List ℕ) (n : ℕ) → Some (n, rest) ≡ row_count_at bytes → run_set bytes ≡ read true n rest
unfolding run_set
run_set-counted bytes rest n e =
    option_and_then_some (λ p. only_if (nat_lt p.0 (2 ^ 32)) p) (vint bytes) (n, rest) (sym e) (λ x o f.
    let parts = cond_some (nat_lt x.0 (2 ^ 32)) x (n, rest) f in
    let told : vint bytes ≡ Some (n, rest) = o ∙ ap Some parts.1 in
    let fits : nat_lt n (2 ^ 32) ≡ true = subst (λ q. nat_lt q.0 (2 ^ 32) ≡ true) parts.1 parts.0 in
    rw told (ap (λ t. read t n rest) fits))

-- no runs without a count
pub run_set-uncounted : (bytes : List ℕ) → None ≡ row_count_at bytes → run_set bytes ≡ None
unfolding run_set
run_set-uncounted bytes e = at (vint bytes) e
  where
    no_lengths : (n : ℕ) (starts : List ℕ) (values : Option (List ℕ)) → (values >>= tested false n starts) ≡ None
    no_lengths n starts None = refl
    no_lengths n starts (Some lengths) = refl

    no_starts : (n : ℕ) (b : List ℕ) (values : Option (List ℕ)) → (values >>= λ starts. values64 b >>= tested false n starts) ≡ None
    no_starts n b None = refl
    no_starts n b (Some starts) = no_lengths n starts (values64 b)

    past : (n : ℕ) (parts : Option (List ℕ × List ℕ))
        → (parts >>= λ p. values64 p.0 >>= λ starts. values64 p.1 >>= tested false n starts) ≡ None
    past n None = refl
    past n (Some p) = no_starts n p.1 (values64 p.0)

    at : (o : Option (ℕ × List ℕ)) → None ≡ (o >>= λ p. only_if (nat_lt p.0 (2 ^ 32)) p)
        → (o >>= λ p. read (nat_lt p.0 (2 ^ 32)) p.0 p.1) ≡ None
    at None f = refl
    at (Some p) f = ap (λ t. read t p.0 p.1) (only_if-none (nat_lt p.0 (2 ^ 32)) p f) ∙ past p.0 (parts_by_first w64 p.1)

-- runs whose bytes have no two parts
pub run_set-unparted : (bytes rest : List ℕ) (n : ℕ) → Some (n, rest) ≡ row_count_at bytes → parts_by_first w64 rest ≡ None
    → run_set bytes ≡ None
run_set-unparted bytes rest n e f =
    run_set-counted bytes rest n e
    ∙ ap (λ parts. parts >>= λ p. values64 p.0 >>= λ starts. values64 p.1 >>= tested true n starts) f

-- the runs behind their count, in two parts
run_set-parted : (bytes rest a b : List ℕ) (n : ℕ) → Some (n, rest) ≡ row_count_at bytes → parts_by_first w64 rest ≡ Some (a, b)
    → run_set bytes ≡ (values64 a >>= λ starts. values64 b >>= runs_by n starts)
run_set-parted bytes rest a b n e f =
    run_set-counted bytes rest n e
    ∙ ap (λ parts. parts >>= λ p. values64 p.0 >>= λ starts. values64 p.1 >>= tested true n starts) f

-- runs whose starts aren't read
pub run_set-unstarted : (bytes rest a b : List ℕ) (n : ℕ) → Some (n, rest) ≡ row_count_at bytes
    → parts_by_first w64 rest ≡ Some (a, b) → values64 a ≡ None → run_set bytes ≡ None
run_set-unstarted bytes rest a b n e f g =
    run_set-parted bytes rest a b n e f ∙ ap (λ values. values >>= λ starts. values64 b >>= runs_by n starts) g

-- runs whose lengths aren't read
pub run_set-unread : (bytes rest a b starts : List ℕ) (n : ℕ) → Some (n, rest) ≡ row_count_at bytes
    → parts_by_first w64 rest ≡ Some (a, b) → values64 a ≡ Some starts → values64 b ≡ None → run_set bytes ≡ None
run_set-unread bytes rest a b starts n e f g h =
    run_set-parted bytes rest a b n e f ∙ ap (λ values. values >>= λ ss. values64 b >>= runs_by n ss) g
    ∙ ap (λ values. values >>= runs_by n starts) h

-- runs that are read
pub run_set-read : (bytes rest a b starts lengths : List ℕ) (n : ℕ) → Some (n, rest) ≡ row_count_at bytes
    → parts_by_first w64 rest ≡ Some (a, b) → values64 a ≡ Some starts → values64 b ≡ Some lengths
    → run_set bytes ≡ runs_by n starts lengths
run_set-read bytes rest a b starts lengths n e f g h =
    run_set-parted bytes rest a b n e f ∙ ap (λ values. values >>= λ ss. values64 b >>= runs_by n ss) g
    ∙ ap (λ values. values >>= runs_by n starts) h
