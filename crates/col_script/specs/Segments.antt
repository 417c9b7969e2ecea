-- What a segment's record calls come to.
use Rattle.std.specs.Prelude.{ℕ, List, [], Option, Some, None, Result, Ok, Err}
use Rattle.col_common.specs.declared.error.ColumnarError.{ColumnarError}
use Rattle.col_model.specs.Recording.{Call, content_after, content_after_all}
use Rattle.col_model.specs.Refusal.{Refusal}
use Rattle.col_program.specs.Script as script
use Rattle.col_model.specs.Written.{Recorded}
use Rattle.col_writer_columns.specs.Answers.{answer_of}
use Rattle.col_script.specs.declared.segment.Segment.{Segment}

-- what was recorded, or the first refusal
abbrev pub RecordedContent : Type 0
RecordedContent = Result Recorded ColumnarError

-- a segment's documents, and what its calls come to
pub record Filled : Type 0 where
  pub count : ℕ
  pub content : RecordedContent

-- a refusal as the answer that it is
abbrev pub answered : Result Recorded Refusal → RecordedContent
answered (Ok w) = Ok w
answered (Err r) = Err (answer_of r)

-- what a script's segment is filled with
abbrev pub filled : script.Segment → Filled
filled s = record { count = s.count; content = answered (content_after_all [] s.calls) }

-- what was recorded, where no call was refused
abbrev pub recorded_content : Recorded → Option ColumnarError → RecordedContent
recorded_content w None = Ok w
recorded_content w (Some e) = Err e

-- what a segment holds
abbrev pub segment_of : Segment → Filled
segment_of s = record { count = s.num_docs; content = recorded_content s.columns s.refusal }

-- the content after one more call
abbrev pub content_behind : RecordedContent → Call → RecordedContent
content_behind (Ok w) c = answered (content_after w c)
content_behind (Err e) c = Err e

-- the segment after one more call
abbrev pub after_call : Filled → Call → Filled
after_call f c = record { count = f.count; content = content_behind f.content c }

-- the content after some calls
abbrev pub content_behind_all : RecordedContent → List Call → RecordedContent
content_behind_all (Ok w) calls = answered (content_after_all w calls)
content_behind_all (Err e) calls = Err e

-- the segment after some calls
abbrev pub after_calls : Filled → List Call → Filled
after_calls f calls = record { count = f.count; content = content_behind_all f.content calls }
