-- What is told of a script's run.
use Rattle.std.specs.Prelude.{ℕ, List, [], Bool, true, false}
use Rattle.run_words.specs.declared.told.Piece.{Piece}
use Rattle.run_words.specs.declared.told.Piece.TheVariants as piece
use Rattle.run_words.specs.declared.explainer.Next.{Next}
use Rattle.run_words.specs.declared.explainer.Next.TheVariants as next

-- what a run prints of a piece
abbrev pub report_in : Piece → List ℕ
report_in (piece.Report bytes) = bytes.items
report_in (piece.Words words) = []

-- the run ends there
abbrev pub is_end : Next → Bool
is_end next.GoesOn = false
is_end next.Ends = true
