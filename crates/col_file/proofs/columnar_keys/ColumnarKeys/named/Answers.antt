use Rattle.std.proofs.Common.{◌≡◌, true, rules, map, bytes_eq, string_bytes, ap, ◌∙◌}
use Rattle.std.specs.Ordering.{nat_cmp, is_lt, is_le}
use Rattle.std.specs.Cmp.Lexicographic.{slice_cmp}
use Rattle.std.proofs.lemmas.Fn.{always_returns_same}
use Rattle.col_model.specs.Keys.{Entry, are_keys}
use Rattle.col_file.specs.Entries.{entry_of, entries_seen}
use Rattle.col_file.specs.declared.column_entry.ColumnEntry.{ColumnEntry}
use Rattle.col_file.proofs.NameLemmas.{names-rise, name-is}
use Rattle.col_file.proofs.RunLemmas.{run-found}
use Rattle.col_file.proofs.columnar_keys.ColumnarKeys.named.Goals as goal

pub returns : goal.returns
returns c =
    let q = c.args.name.now in
    let rank = λ (e : ColumnEntry). slice_cmp nat_cmp (string_bytes e.key.name) q in
    let test = λ (e : Entry). bytes_eq e.key.name q in
    let es = c.as_slice-columns.result.now in
    let same : es ≡ c.self.inside.columns.items = c.as_slice-columns.ensures.value in
    let keys : are_keys (map (λ e. e.key) (entries_seen es)) ≡ true =
    ap (λ es. are_keys (map (λ e. e.key) (entries_seen es))) same ∙ c.self.invariant in
    let rises = names-rise es keys q in
    let found : map entry_of es ≡ c.args.self.now.entries = ap (map entry_of) same ∙ ap (λ k. k.entries) c.self.view_is in
    let low = c.partition_point-start in
    let high = c.partition_point-end in
    run-found rank entry_of test (name-is q) es c.args.self.now.entries found rises
    low.result high.result low.ensures.bound high.ensures.bound
    (low.ensures.partitioned (λ e. is_lt (rank e)) (always_returns_same _ _ _ (λ a r f called. search rules)))
    (high.ensures.partitioned (λ e. is_le (rank e)) (always_returns_same _ _ _ (λ a r f called. search rules)))
