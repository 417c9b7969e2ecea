-- What the footer says before its ranges, as code holds it.
use Rattle.col_compact.specs.declared.codec_params.Head.{Head as HeldHead}
use Rattle.col_compact.specs.Params.{Head}

-- its fields
abbrev pub head_seen : HeldHead → Head
head_seen h = record {
  least = h.min_value;
  greatest = h.max_value;
  count = h.num_vals;
  code_width = h.num_bits;
}
