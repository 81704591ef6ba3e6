-- One more value at the front of a padded array.
use Rattle.std.proofs.Common.{◌≡◌, ℕ, ◌+◌, ◌-◌, ◌<◌, List, drop, set, replicate, ap, sym, ◌∙◌, arith}
use Rattle.std.proofs.lemmas.List.{length-set, drop-set-lt, drop-drop, drop-replicate}
use Rattle.rep_values.specs.Padded.{IsPadded}

-- it stays padded
pub IsPadded-more : {X : Type 0} (size : ℕ) (blank : X) (len : ℕ) (cells : List X) (value : X) → len < size → IsPadded size blank len cells → IsPadded size blank (len + 1) (set cells len value)
IsPadded-more size blank len cells value within padded =
    let less : size - len - 1 ≡ size - (len + 1) = omega arith in
    record {
      within = omega arith;
      whole = length-set cells len value ∙ padded.whole;
      blanks = drop-set-lt (len + 1) cells len value (omega arith) ∙ sym (drop-drop 1 len cells) ∙ ap (drop 1) padded.blanks ∙ drop-replicate 1 (size - len) blank ∙ ap (λ n. replicate n blank) less;
    }
