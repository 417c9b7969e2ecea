-- Questions as the definitions have them.
use Rattle.std.specs.Prelude.{string_bytes}
use Rattle.col_program.specs.Script as script
use Rattle.col_types.specs.Kinds.{kind_of}
use Rattle.col_questions.specs.Finds.{find_of}
use Rattle.col_questions.specs.Steps.{tree_of}
use Rattle.col_questions.specs.declared.question.Question.{Question}
use Rattle.col_questions.specs.declared.question.Question.TheVariants as questions

-- the question
abbrev pub question_of : Question → script.Question
question_of (questions.Find f) = script.lookup (find_of f)
question_of (questions.Facet name t) = script.facet (string_bytes name) (kind_of t)
question_of (questions.Query q) = script.query (tree_of q)
