-- Lists under BlockwiseLinear that are read in place.
use Rattle.std.proofs.Common.{◌≡◌, ℕ, ◌+◌, ◌-◌, ◌*◌, ◌/◌, ◌%◌, ◌^◌, ◌<◌, ◌≤◌, ◌==◌, ◌&&◌, nat_le, Bool, true, false, List, ◌++◌, length, map, take, drop, get_or, slice_get, Option, Some, None, refl, sym, ◌∙◌, ap, arith, subst}
use Rattle.std.specs.Int.{w64, from_le_bytes, byte_len, div_ceil}
use Rattle.std.specs.List.{range_with_len}
use Rattle.std.proofs.lemmas.List.{get_or-map, length-map, take-take, length-take-le}
use Rattle.std.proofs.lemmas.List.FromFn.{length-map-range_with_len, get_or-map-range_with_len}
use Rattle.std.proofs.lemmas.Option.{option_and_then_some, cond_some, slice_get-get_or}
use Rattle.col_common.specs.Reading.{only_if, back, items, nothing_left, parts_by_second}
use Rattle.col_common.specs.Decoding.{Refuses}
use Rattle.col_common.specs.declared.error.ColumnarError.{ColumnarError}
use Rattle.col_common.specs.declared.error.ColumnarError.TheVariants.{OutOfMemory, InvalidData}
use Rattle.col_model.specs.Stats.{Stats, stats_of, same_stats}
use Rattle.col_model.specs.U64List.{LinearParams, params_at}
use Rattle.col_model.specs.Items.{linear_item, are_blocks, no_line, blockwise_item, blockwise_items}
use Rattle.col_model.specs.Codecs.{block_count}
use Rattle.col_model.proofs.StatsLaws.{map-map}
use Rattle.col_model.proofs.BlockItemLaws.{length-items, blockwise_values-some, blockwise_values-no_parts, blockwise_values-no_lines}
use Rattle.std.proofs.Math.Seq.{take-append_seam}
use Rattle.col_codecs.specs.declared.blockwise_linear.block.Block.{Block}
use Rattle.col_codecs.specs.Header.{list_by}
use Rattle.col_codecs.specs.Blocks.{block_params, block_of, no_block, step_in, step_of, steps_in, item_of, items_in, lines_of, AreWithin, ArePlaced, IsReader}
use Rattle.col_codecs.specs.declared.block_bounds.Bounds.{Bounds}
use Rattle.col_codecs.specs.BlockBounds.{Enclose}
use Rattle.col_codecs.proofs.LinearReaderLemmas.{checked-both, filled_from}
use Rattle.col_model.proofs.OneFormLaws.{same_stats-equal}
use Rattle.col_codecs.proofs.BlockStepsLemmas.{block-found}

-- ---- items

-- the item by code
item_of-wrapped : (s : Stats) (k p : ℕ) → p ≡ s.divisor * k → (s.least + p % 2 ^ 64) % 2 ^ 64 ≡ item_of s k
item_of-wrapped s k p e = ap (λ m. (s.least + m % 2 ^ 64) % 2 ^ 64) e ∙ omega arith

-- the items are those of the steps at each position below the count
pub items_in-is : (s : Stats) (bs : List Block) (bytes : List ℕ)
    → items_in s bs bytes ≡ map (λ i. item_of s (step_of bs bytes i)) (range_with_len 0 s.count)
unfolding steps_in
items_in-is s bs bytes = map-map (step_of bs bytes) (item_of s) (range_with_len 0 s.count)

-- there are as many items as the statistics count
pub length-items_in : (s : Stats) (bs : List Block) (bytes : List ℕ) → length (items_in s bs bytes) ≡ s.count
length-items_in s bs bytes = ap length (items_in-is s bs bytes) ∙ length-map-range_with_len (λ i. item_of s (step_of bs bytes i)) 0 s.count

pub items_in-at : (s : Stats) (bs : List Block) (bytes : List ℕ) (i : ℕ) → i < s.count
    → get_or (items_in s bs bytes) i 0 ≡ item_of s (step_of bs bytes i)
items_in-at s bs bytes i h =
    ap (λ xs. get_or xs i 0) (items_in-is s bs bytes)
    ∙ get_or-map-range_with_len (λ j. item_of s (step_of bs bytes j)) 0 s.count i i 0 h (omega arith)

-- an item of placed blocks
item-placed : (s : Stats) (bs : List Block) (bytes : List ℕ) (i : ℕ) → ArePlaced s.count bs bytes
    → length bs ≡ block_count s.count → i < s.count
    → item_of s (step_of bs bytes i) ≡ blockwise_item s (map block_params bs) bytes i
item-placed s bs bytes i placed count h =
    let k = i / 512 in
    let room : k < length bs = omega (arith, count) in
    let slope : block_params (block_of bs k) ≡ get_or (map block_params bs) k no_line =
    sym (get_or-map block_params bs k no_block no_line room) in
    ap (λ l. item_of s (linear_item l (drop (block_of bs k).start bytes) (i % 512))) slope
    ∙ ap (λ n. item_of s (linear_item (get_or (map block_params bs) k no_line) (drop n bytes) (i % 512))) (placed.starts k room)

pub items_in-placed : (s : Stats) (bs : List Block) (bytes : List ℕ) → ArePlaced s.count bs bytes
    → length bs ≡ block_count s.count → items_in s bs bytes ≡ blockwise_items s (map block_params bs) bytes
items_in-placed s bs bytes placed count =
    let own = blockwise_item s (map block_params bs) bytes in
    filled_from own 0 s.count (items_in s bs bytes) (length-items_in s bs bytes)
    (λ k h. let place : 0 + k ≡ k = omega arith in items_in-at s bs bytes k h ∙ item-placed s bs bytes k placed
    count h ∙ ap own (sym place))

-- ---- the list behind statistics

-- bytes that have no two parts stand for no list
pub list_by-no_parts : (s : Stats) (bytes : List ℕ) → parts_by_second w64 bytes ≡ None → list_by 2 s bytes ≡ None
unfolding list_by
list_by-no_parts s bytes e = rw (blockwise_values-no_parts s bytes e) refl

-- bytes whose footer isn't a line for each block stand for no list
pub list_by-no_lines : (s : Stats) (bytes body footer : List ℕ) (n : ℕ) → n ≡ div_ceil s.count 512
    → parts_by_second w64 bytes ≡ Some (body, footer) → lines_of n footer ≡ None → list_by 2 s bytes ≡ None
unfolding list_by
list_by-no_lines s bytes body footer n count e q =
    rw (blockwise_values-no_lines s bytes body footer e (ap (λ m. lines_of m footer) (sym count) ∙ q)) refl

-- what is refused of the lines is refused of the list
pub refuses-list : (e : ColumnarError) {A B : Type 0} (lines : Option A) (list : Option B)
    → (lines ≡ None → list ≡ None) → Refuses e lines → Refuses e list
refuses-list OutOfMemory lines list f r = tt
refuses-list InvalidData lines list f r = f r
refuses-list _ lines list f r = absurd r

list_by-lines : (s : Stats) (bytes body footer : List ℕ) (n : ℕ) (ls : List LinearParams) → n ≡ div_ceil s.count 512
    → parts_by_second w64 bytes ≡ Some (body, footer) → lines_of n footer ≡ Some ls
    → list_by 2 s bytes ≡ only_if
    (are_blocks s.count ls body && same_stats (stats_of (blockwise_items s ls body)) s) (blockwise_items s ls body)
unfolding list_by
list_by-lines s bytes body footer n ls count e q =
    rw (blockwise_values-some s bytes body footer ls e (ap (λ m. lines_of m footer) (sym count) ∙ q))
    (checked-both s (are_blocks s.count ls body) (blockwise_items s ls body))

-- so many lines
pub length-lines_of : (n : ℕ) (footer : List ℕ) (ls : List LinearParams) → lines_of n footer ≡ Some ls → length ls ≡ n
length-lines_of n footer ls e =
    option_and_then_some nothing_left (items params_at n footer) ls e (λ r f g.
    ap length (sym (cond_some (length r.1 == 0) r.0 ls g).1) ∙ length-items params_at n footer r.0 r.1 f)

-- ---- parts

back-front : (n : ℕ) (xs a b : List ℕ) → back n xs ≡ Some (a, b) → a ≡ take (length xs - n) xs
back-front n xs a b e =
    let cut = length xs - n in
    ap (λ p. p.0) (sym (cond_some (nat_le n (length xs)) (take cut xs, drop cut xs) (a, b) e).1)

-- the first part is the bytes' front
pub parts-front : (bytes body footer : List ℕ) → parts_by_second w64 bytes ≡ Some (body, footer) → take (length body) bytes ≡ body
unfolding parts_by_second
parts-front bytes body footer e =
    option_and_then_some (λ (p : List ℕ × List ℕ). back (from_le_bytes w64 p.1) p.0) (back (byte_len w64) bytes) (body, footer) e (λ p f g.
    let c1 = length bytes - byte_len w64 in
    let outer : p.0 ≡ take c1 bytes = back-front (byte_len w64) bytes p.0 p.1 f in
    let long1 : length p.0 ≡ c1 = ap length outer ∙ length-take-le c1 bytes (omega arith) in
    let c2 = length p.0 - from_le_bytes w64 p.1 in
    let inner : body ≡ take c2 p.0 = back-front (from_le_bytes w64 p.1) p.0 body footer g in
    let long2 : length body ≡ c2 = ap length inner ∙ length-take-le c2 p.0 (omega arith) in
    ap (λ n. take n bytes) long2 ∙ sym (inner ∙ ap (take c2) outer ∙ take-take c2 c1 bytes (omega (arith, long1))))

-- the test of statistics that were found
pub same_stats-items_in : (s found : Stats) (bs : List Block) (bytes : List ℕ) (test : Bool)
    → found ≡ stats_of (map (λ i. item_of s (step_of bs bytes i)) (range_with_len 0 s.count))
    → test ≡ same_stats found s → test ≡ same_stats (stats_of (items_in s bs bytes)) s
same_stats-items_in s found bs bytes test stats is = is ∙ ap (λ f. same_stats f s) (stats ∙ ap stats_of (sym (items_in-is s bs bytes)))

-- ---- a list whose parts and lines are read

module _ (s : Stats) (bytes body footer : List ℕ) (n : ℕ) (bs : List Block) (count : n ≡ div_ceil s.count 512)
    (parts : parts_by_second w64 bytes ≡ Some (body, footer)) (lines : lines_of n footer ≡ Some (map block_params bs))
  where
    own_lines : list_by 2 s bytes
        ≡ only_if (are_blocks s.count (map block_params bs) body
        && same_stats (stats_of (blockwise_items s (map block_params bs) body)) s)
        (blockwise_items s (map block_params bs) body)
    own_lines = list_by-lines s bytes body footer n (map block_params bs) count parts lines

    front : take (length body) bytes ≡ body
    front = parts-front bytes body footer parts

    -- what encloses items that are read from the part encloses those read from its bytes
    pub front-bounds : (bounds : List Bounds) (held : List Block)
        → Enclose bounds (λ i. item_of s (step_of held body i)) s.count
        → Enclose bounds (λ i. item_of s (step_of held (take (length body) bytes) i)) s.count
    front-bounds bounds held enclosed = subst (λ read. Enclose bounds (λ i. item_of s (step_of held read i)) s.count) (sym front) enclosed

    -- its blocks are other ones
    pub list_by-other_blocks : (lent : List Block) (test : Bool) → lent ≡ bs
        → test ≡ are_blocks s.count (map block_params lent) body → test ≡ false → list_by 2 s bytes ≡ None
    list_by-other_blocks lent test e is t =
        own_lines ∙ ap (λ b. only_if (b && same_stats (stats_of (blockwise_items s (map block_params bs) body)) s)
        (blockwise_items s (map block_params bs) body))
        (ap (λ ks. are_blocks s.count (map block_params ks) body) (sym e) ∙ sym is ∙ t)

    -- Its blocks are placed, and held again where they were lent.
    module _ (lent new held : List Block) (v : ℕ) (test : Bool) (e : lent ≡ bs) (slopes : map block_params new ≡ map
        block_params lent) (long : length new ≡ length lent) (all : v ≡ length bs) (refilled : held ≡ take v
        (new ++ drop (length new) bs)) (is : test ≡ are_blocks s.count (map block_params lent) body) (t : test ≡ true)
      where
        held-new : held ≡ new
        held-new =
            refilled ∙ ap (λ m. take m (new ++ drop (length new) bs)) (all ∙ ap length (sym e) ∙ sym long)
            ∙ take-append_seam new (drop (length new) bs)

        pub held-count : length held ≡ block_count s.count
        held-count =
            ap length held-new ∙ long ∙ ap length e ∙ sym (length-map bs block_params)
            ∙ length-lines_of n footer (map block_params bs) lines ∙ count

        -- blocks that are placed are as many as the count needs, and begin within the bytes
        pub held-whole : ArePlaced s.count new body → (length held ≡ block_count s.count) × AreWithin held body
        held-whole are = (held-count, (subst (λ ks. ArePlaced s.count ks body) (sym held-new) are).within)

        held-slopes : map block_params held ≡ map block_params bs
        held-slopes = ap (map block_params) held-new ∙ slopes ∙ ap (map block_params) e

        -- placed blocks stand for the list of their items, if the statistics are its own
        pub held-list : (b same : Bool) → ArePlaced s.count new body
            → same ≡ same_stats (stats_of (items_in s held body)) s → same ≡ b
            → list_by 2 s bytes ≡ only_if b (items_in s held (take (length body) bytes))
        held-list b same are by u =
            let placed : ArePlaced s.count held body = subst (λ ks. ArePlaced s.count ks body) (sym held-new) are in
            let own : items_in s held body ≡ blockwise_items s (map block_params bs) body =
            items_in-placed s held body placed held-count ∙ ap (λ ls. blockwise_items s ls body) held-slopes in
            own_lines
            ∙ ap (λ c. only_if (c && same_stats (stats_of (blockwise_items s (map block_params bs) body)) s)
            (blockwise_items s (map block_params bs) body))
            (ap (λ ks. are_blocks s.count (map block_params ks) body) (sym e) ∙ sym is ∙ t)
            ∙ ap (λ xs. only_if (same_stats (stats_of xs) s) xs) (sym own)
            ∙ ap (λ c. only_if c (items_in s held body)) (sym by ∙ u)
            ∙ ap (λ read. only_if b (items_in s held read)) (sym front)

        -- placed blocks are a reader of their bytes, if the statistics are those of the items
        pub held-reader : (same : Bool) → ArePlaced s.count new body
            → same ≡ same_stats (stats_of (items_in s held body)) s → same ≡ true
            → IsReader s held (take (length body) bytes)
        held-reader same are by u =
            let placed : ArePlaced s.count held body = subst (λ ks. ArePlaced s.count ks body) (sym held-new) are in
            rw front (record {
              count = held-count;
              within = placed.within;
              exact = same_stats-equal (stats_of (items_in s held body)) s (sym by ∙ u);
            })

-- ---- for a reader

module _ (s : Stats) (bs : List Block) (bytes list : List ℕ) (idx : ℕ) (view : items_in s bs bytes ≡ list)
    (reader : IsReader s bs bytes) (h : idx < length list) where
  within : idx < s.count
  within = omega (arith, h, ap length view, length-items_in s bs bytes)

  -- its block is there
  pub read-room : idx / 512 < length bs
  read-room = omega (arith, within, reader.count)

  -- and begins within the bytes
  pub read-start : (b : Block) → b ≡ get_or bs (idx / 512) b → b.start ≤ length bytes
  read-start b is = rw (block-found bs (idx / 512) b read-room is) (reader.within (idx / 512) read-room)

  -- a step that is read from its block gives the list's item, wrapped at 2 ^ 64
  pub read-item : (b : Block) (read : List ℕ) (step : ℕ) → b ≡ get_or bs (idx / 512) b → read ≡ bytes
      → step ≡ step_in b read (idx % 512)
      → slice_get list idx ≡ Some ((s.least + s.divisor * step % 2 ^ 64) % 2 ^ 64)
  read-item b read step is same e =
      let own : step ≡ step_of bs bytes idx = e ∙ ap (λ ys. step_in b ys (idx % 512)) same
      ∙ ap (λ (k : Block). step_in k bytes (idx % 512)) (block-found bs (idx / 512) b read-room is) in
      slice_get-get_or list idx 0 h
      ∙ ap (λ xs. Some (get_or xs idx 0)) (sym view)
      ∙ ap Some (items_in-at s bs bytes idx within ∙ ap (item_of s) (sym own) ∙ sym (item_of-wrapped s step (s.divisor * step) refl))
