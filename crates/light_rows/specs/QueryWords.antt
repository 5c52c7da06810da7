-- A query as six words: a point, then its normal. Words past the end are read as 0. Definitions only. Assumes nothing.
use Rattle.std.specs.Prelude.{ℕ, List}
use Rattle.light_bounds.specs.declared.importance.Query.{Query}
use Rattle.light_rows.specs.RecordWords.{vec_at}

-- `QUERY_WORDS`
abbrev pub query_words : ℕ
query_words = 6

unfoldable pub query_of : List ℕ → Query
query_of ws = record { p = vec_at ws 0; n = vec_at ws 3 }
