-- Bytes compared one by one.
use Rattle.std.proofs.Common.{◌≡◌, nat_eq, drop}
use Rattle.std.specs.Cmp.Lexicographic.{pointwise}
use Rattle.script_words.proofs.words.is_same.Given as goal

abbrev pub invariant-loop-place : goal.invariant-loop-place
invariant-loop-place l = pointwise nat_eq (drop l.place l.word) (drop l.place l.written) ≡ pointwise nat_eq l.word l.written
