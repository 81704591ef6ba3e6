-- What a read of bytes in memory gives and leaves.
use Rattle.std.proofs.Common.{arith, List, ℕ, ◌≡◌, ◌+◌, ◌-◌, ◌++◌, length, drop, take, ap, sym, ◌∙◌}
use Rattle.std.proofs.lemmas.List.Folds.{drop_split}
use Rattle.std.proofs.Math.Seq.{take-append_seam}

-- what was copied to the front of the piece is what was left, up to what still is
pub drop-copied : (bytes piece rest : List ℕ) (at n : ℕ) → piece ≡ take (at + n - at) (drop at bytes) → length piece ≡ n
    → drop at bytes ≡ take n (piece ++ rest) ++ drop (at + n) bytes
drop-copied bytes piece rest at n copied len =
    drop_split bytes at (at + n) (omega arith)
    ∙ ap (λ front. front ++ drop (at + n) bytes) (sym copied ∙ sym (take-append_seam piece rest) ∙ ap (λ k. take k (piece ++ rest)) len)
