-- Worked runs of the whole program with facets and queries, computed: the report for a script.
use Rattle.std.specs.Prelude.{◌≡◌, List, ℕ, [], ◌∷◌, ◌++◌, codes, refl}
use Rattle.col_program.proofs.OnLiterals.{col_program_on_literals}
use Rattle.col_program.proofs.RunForms.{answer_of, merge_words, lines}
use Rattle.col_program.specs.Outcome.{outcome}

-- ---- facets

facets : answer_of (outcome merge_words [] (lines (codes "[\"segment\",1]"
    ∷ codes "[\"sorted\",\"t\",\"str\"]" ∷ codes "[\"str\",0,\"t\",\"b\"]" ∷ codes "[\"str\",0,\"t\",\"a\"]"
    ∷ codes "[\"str\",0,\"t\",\"b\"]" ∷ codes "[\"facet\",\"t\",\"str\"]" ∷ codes "[\"facet\",\"u\",\"str\"]" ∷ [])))
    ≡ [] ∷ lines (codes "[\"rows\",1]" ∷ codes "[\"column\",\"t\",\"str\",\"mult\",3]"
    ∷ codes "[\"row\",0,[\"a\",\"b\",\"b\"]]" ∷ codes "[\"facet\",\"t\",\"str\",[[\"a\",1],[\"b\",2]]]"
    ∷ codes "[\"facet\",\"u\",\"str\",null]" ∷ []) ∷ []
unfolding col_program_on_literals
facets = refl

-- ---- queries

-- a column of two documents, one of them with several values
abbrev two_rows : List (List ℕ)
two_rows = codes "[\"segment\",2]" ∷ codes "[\"i64\",0,\"m\",5]" ∷ codes "[\"i64\",0,\"m\",9]" ∷ codes "[\"i64\",1,\"m\",12]" ∷ []

abbrev two_rows_report : List (List ℕ)
two_rows_report = codes "[\"rows\",2]" ∷ codes "[\"column\",\"m\",\"i64\",\"mult\",3]" ∷ codes "[\"row\",0,[5,9]]"
    ∷ codes "[\"row\",1,[12]]" ∷ []

joined_queries : answer_of (outcome merge_words [] (lines (two_rows
    ++ codes "[\"query\",[\"not\",[\"range\",\"m\",\"i64\",5,9]]]" ∷ codes "[\"query\",[\"and\",[]]]"
    ∷ codes "[\"query\",[\"or\",[]]]" ∷ codes "[\"query\",[\"all\"]]" ∷ [])))
    ≡ [] ∷ lines (two_rows_report ++ codes "[\"query\",[1]]" ∷ codes "[\"query\",[0,1]]" ∷ codes "[\"query\",[]]"
    ∷ codes "[\"query\",[0,1]]" ∷ []) ∷ []
unfolding col_program_on_literals
joined_queries = refl

absent_column : answer_of (outcome merge_words [] (lines (two_rows
    ++ codes "[\"query\",[\"not\",[\"has\",\"x\",\"str\"]]]" ∷ codes "[\"query\",[\"has\",\"m\",\"u64\"]]"
    ∷ codes "[\"query\",[\"or\",[[\"has\",\"x\",\"str\"],[\"has\",\"m\",\"i64\"]]]]" ∷ [])))
    ≡ [] ∷ lines (two_rows_report ++ codes "[\"query\",[0,1]]" ∷ codes "[\"query\",[]]" ∷ codes "[\"query\",[0,1]]" ∷ []) ∷ []
unfolding col_program_on_literals
absent_column = refl

no_query : answer_of (outcome merge_words [] (lines (two_rows ++ codes "[\"query\",[\"near\",1]]" ∷ []))) ≡ (20 ∷ []) ∷ []
unfolding col_program_on_literals
no_query = refl
