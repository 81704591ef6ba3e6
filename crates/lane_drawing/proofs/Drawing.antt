-- What drawing does to the marks among shapes.
use Rattle.std.proofs.Common.{◌≡◌, List, [], ◌∷◌, ◌++◌, ap, ◌∙◌}
use Rattle.std.proofs.lemmas.Grind.{flat_map-append}
use Rattle.std.proofs.lemmas.List.{append-nil}
use Rattle.page_text.specs.declared.drawing.Shape.{Shape}
use Rattle.lane_drawing.specs.Marks.{Mark, marks_in, marks_of}

-- a shape more
pub marks_on : (shapes new : List Shape) (s : Shape) → new ≡ shapes ++ s ∷ [] → marks_of new ≡ marks_of shapes ++ marks_in s
marks_on shapes new s more =
    ap marks_of more ∙ flat_map-append marks_in shapes (s ∷ []) ∙ ap (λ (ms : List Mark). marks_of shapes ++ ms) (append-nil (marks_in s))
