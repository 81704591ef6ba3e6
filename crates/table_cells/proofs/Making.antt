-- Steps of making lists one value after the other.
use Rattle.std.proofs.Common.{◌≡◌, ℕ, suc, ◌+◌, List, [], ◌∷◌, ◌++◌, map, ap, ◌∙◌, append_assoc, add-one}
use Rattle.rep_schema.specs.Tables.{Cells}
use Rattle.rep_values.specs.declared.value.Value.{Value}
use Rattle.rep_schema.specs.Putting.{StoreState}
use Rattle.page_text.specs.declared.table.Cell.{Cell}
use Rattle.table_cells.specs.Cells.{cell_of, cells_from}

-- what was made of the values so far, and what is to be made of those to come, with one value more
pub made_more : {X Y : Type 0} (f : X → Y) (left rest : List X) (x : X) (made more whole : List Y) (y : Y)
    → made ++ map f left ≡ whole → left ≡ x ∷ rest → y ≡ f x → more ≡ made ++ y ∷ [] → more ++ map f rest ≡ whole
made_more f left rest x made more whole y kept next is push =
    ap (λ m. m ++ map f rest) push ∙ append_assoc made (y ∷ []) (map f rest) ∙ ap (λ z. made ++ (z ∷ map f rest)) is ∙ (rw next at kept)

-- the same of the cells of a row
pub cells_more : (masters : List StoreState) (table : ℕ) (key left rest : Cells) (column : ℕ) (v : Value) (cells more whole : List Cell) (cell : Cell)
    → cells ++ cells_from masters table key column left ≡ whole → left ≡ v ∷ rest → cell ≡ cell_of masters table key column v → more ≡ cells ++ cell ∷ []
    → more ++ cells_from masters table key (column + 1) rest ≡ whole
cells_more masters table key left rest column v cells more whole cell kept next is push =
    let step : cells ++ (cell_of masters table key column v ∷ cells_from masters table key (suc column) rest) ≡ whole = rw next at kept in
    ap (λ (m : List Cell). m ++ cells_from masters table key (column + 1) rest) push
    ∙ append_assoc cells (cell ∷ []) (cells_from masters table key (column + 1) rest)
    ∙ ap (λ (z : Cell). cells ++ (z ∷ cells_from masters table key (column + 1) rest)) is
    ∙ ap (λ (n : ℕ). cells ++ (cell_of masters table key column v ∷ cells_from masters table key n rest)) (add-one column)
    ∙ step
