-- What stands for a byte of a text neither begins nor ends markup.
use Rattle.std.proofs.Common.{◌≡◌, ◌∙◌, refl, ap}
use Rattle.std.specs.Prelude.{ℕ, ◌==◌, ◌&&◌, Bool, true, false, cond, [], ◌∷◌, codes}
use Rattle.std.specs.List.{list_all}
use Rattle.std.proofs.lemmas.List.Folds.{list_all-append}
use Rattle.page_text.specs.Markup.{is_plain, unit_of, escaped}
use Rattle.page_text.specs.Laws.{is_harmless, TextsHoldNoMarkup}

choice : (and less greater quote plain : Bool) (b : ℕ) → (b == 60) ≡ less → (b == 62) ≡ greater → (b == 34) ≡ quote
    → list_all is_harmless (cond and (codes "&amp;") (cond less (codes "&lt;") (cond greater (codes "&gt;") (cond quote (codes "&quot;") (cond plain (b ∷ []) (codes "?")))))) ≡ true
choice true less greater quote plain b l g q = refl
choice false true greater quote plain b l g q = refl
choice false false true quote plain b l g q = refl
choice false false false true plain b l g q = refl
choice false false false false true b l g q = rw (l, g, q) refl
choice false false false false false b l g q = refl

unit_is_harmless : (b : ℕ) → list_all is_harmless (unit_of b) ≡ true
unit_is_harmless b = choice (b == 38) (b == 60) (b == 62) (b == 34) (is_plain b) b refl refl refl

pub texts_hold_no_markup : TextsHoldNoMarkup
texts_hold_no_markup [] = refl
texts_hold_no_markup (b ∷ text) =
    list_all-append is_harmless (unit_of b) (escaped text)
    ∙ ap (λ x. x && list_all is_harmless (escaped text)) (unit_is_harmless b)
    ∙ texts_hold_no_markup text
