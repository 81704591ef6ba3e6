-- What the texts of commands tell, counted, and what comes of commands.
use Rattle.std.specs.Prelude.{ℕ, ◌+◌, ◌^◌, ◌<◌, ◌≤◌, Bool, ◌&&◌, not, cond, List, codes, count_by, sum_by}
use Rattle.rep_values.specs.Name.{same_bytes}
use Rattle.world.specs.declared.answer.Outcome.{Outcome}
use Rattle.world.specs.declared.answer.Outcome.TheVariants as outcome
use Rattle.replication_cli.specs.declared.tally.Tally.{Tally}
use Rattle.replication_cli.specs.Words.{word_at, digits_number}

-- the text has this word at a place, from 0
abbrev pub has_word : ℕ → List ℕ → List ℕ → Bool
has_word place word text = same_bytes (word_at place text) word

-- commit SITE NUMBER: a commit with calls
abbrev pub is_commit : List ℕ → Bool
is_commit text = has_word 0 (codes "commit") text && not (has_word 2 (codes "none") text)

-- ! LINE TEXT: a refused command
abbrev pub is_refused : List ℕ → Bool
is_refused text = has_word 0 (codes "!") text

-- push A B sent N done D errors E low M: a push that wasn't refused
abbrev pub is_push : List ℕ → Bool
is_push text = has_word 0 (codes "push") text

-- the errors that a push counted: its ninth word
abbrev pub errors_of : List ℕ → ℕ
errors_of text = cond (is_push text) (digits_number (word_at 8 text)) 0

-- the counts over texts
abbrev pub tally_of : List (List ℕ) → Tally
tally_of texts = record {
  commits = count_by is_commit texts;
  refused = count_by is_refused texts;
  pushes = count_by is_push texts;
  errors = sum_by errors_of texts;
}

-- each count has room for one text more
pub record HasRoom (t : Tally) : Type 0 where
  pub commits : t.commits + 1 < 2 ^ 64
  pub refused : t.refused + 1 < 2 ^ 64
  pub pushes : t.pushes + 1 < 2 ^ 64
  pub errors : t.errors + 2 ^ 64 ≤ 2 ^ 128

-- the counts with one refused command more
abbrev pub with_refusal : Tally → Tally
with_refusal t = record { commits = t.commits; refused = t.refused + 1; pushes = t.pushes; errors = t.errors }

-- the counts with one text more
abbrev pub with_text : Tally → List ℕ → Tally
with_text t text = record {
  commits = t.commits + cond (is_commit text) 1 0;
  refused = t.refused + cond (is_refused text) 1 0;
  pushes = t.pushes + cond (is_push text) 1 0;
  errors = t.errors + errors_of text;
}

-- ---- outcomes

-- the numbers of an outcome have 64 bits
abbrev pub NumbersFit : Outcome → Type 0
NumbersFit (outcome.Committed number) = number < 2 ^ 64
NumbersFit (outcome.Pushed count) = (count.sent < 2 ^ 64) × (count.done < 2 ^ 64) × (count.errors < 2 ^ 64) × (count.low < 2 ^ 64)
NumbersFit outcome.NothingCommitted = Unit {0}
NumbersFit outcome.Done = Unit {0}

-- the counts with what came of one line more: they are those with its text
abbrev pub with_outcome : Tally → Outcome → Tally
with_outcome t (outcome.Committed number) = record { commits = t.commits + 1; refused = t.refused; pushes = t.pushes; errors = t.errors }
with_outcome t (outcome.Pushed count) = record { commits = t.commits; refused = t.refused; pushes = t.pushes + 1; errors = t.errors + count.errors }
with_outcome t outcome.NothingCommitted = t
with_outcome t outcome.Done = t
