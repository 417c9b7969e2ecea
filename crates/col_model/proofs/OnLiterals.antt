-- What is computed on literal bytes: the definitions that a test unfolds.
use Rattle.std.specs.Prelude.{⊤}
use Rattle.std.specs.Str.{is_utf8, chars}
use lib.Utf8.{encode}
use Rattle.std.specs.Fmt.{digits}
use Rattle.col_common.specs.Reading.{parts_by_first, parts_by_second, items}
use Rattle.col_common.specs.VInt.{groups, group_bytes}
use Rattle.col_bits.specs.Packed.{packed}
use Rattle.col_model.specs.Stats.{stats_of, stats_at}
use Rattle.col_model.specs.Line.{line}
use Rattle.col_model.specs.U64List.{bitpacked_values, params_at, linear_values, blocks, blockwise_values, values64}
use Rattle.col_model.specs.Training.{trained_slope, trained_line}
use Rattle.col_model.specs.Codecs.{params_bytes, linear_line, linear_body, cut_blocks, block_line, blocks_bytes, blockwise_body, bitpacked_body, bitpacked_estimate, linear_estimate, blockwise_estimate, chosen_codec}
use Rattle.col_model.specs.AddressList.{coded_number, ranges_from, ranges_at, address_footer_at, coded_values, values128}
use Rattle.col_model.specs.Sorted.{sorted_items, distinct_items}
use Rattle.col_model.specs.Dictionary.{cut, terms}
use Rattle.col_model.specs.Index.{listed_set, runs_of, run_set, formed_set, row_set, row_offsets, offset_counts_v1, shape, counts}
use Rattle.col_model.specs.Column.{number_rows, term_column, column}
use Rattle.col_model.specs.Keys.{key_of, keyed_length, key_table, file_footer, keys}
use Rattle.col_model.specs.File.{parts_of}
use Rattle.col_model.specs.Lookup.{docs_between}
use Rattle.col_model.specs.NumericalType.{numerical_type}
use Rattle.col_model.specs.Limits.{is_too_large}
use Rattle.col_model.specs.Written.{written}
use Rattle.col_model.specs.Recording.{content_after}
use Rattle.col_model.specs.Order.{picks}
use Rattle.col_model.specs.Merge.{joined_column, merged}
use Rattle.col_model.specs.CodeHits.{hit_from}
use Rattle.col_model.specs.SortOrder.{sort_order}
use Rattle.col_model.specs.Spelling.{column_bytes, keyed_length_bytes, key_table_bytes, footer_bytes, file_bytes}

-- what a proof unfolds to compute a reading on literal bytes
unfoldable pub col_model_on_literals : ⊤
unfolding is_utf8 chars encode digits parts_by_first parts_by_second items groups group_bytes packed stats_of
    stats_at line bitpacked_values params_at linear_values blocks blockwise_values values64 trained_slope
    trained_line params_bytes linear_line linear_body cut_blocks block_line blocks_bytes blockwise_body
    bitpacked_body bitpacked_estimate linear_estimate blockwise_estimate chosen_codec coded_number ranges_from
    ranges_at address_footer_at coded_values values128 sorted_items distinct_items cut terms
    listed_set runs_of run_set formed_set row_set row_offsets offset_counts_v1 shape counts number_rows
    term_column column key_of keyed_length key_table file_footer keys parts_of docs_between
    numerical_type is_too_large written
    content_after picks joined_column merged hit_from sort_order column_bytes keyed_length_bytes key_table_bytes footer_bytes file_bytes
col_model_on_literals = tt
