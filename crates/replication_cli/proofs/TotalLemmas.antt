-- One row more of what the rows of a table come to.
use Rattle.std.proofs.Common.{◌≡◌, ℤ, ◌+ℤ◌, ◌∷◌, fold}
use Rattle.std.specs.Prelude.{Option}
use Rattle.rep_schema.specs.Tables.{Cells, Rows}
use Rattle.replication_cli.specs.Stocks.{qty_of, top_of, greatest_with}

-- the sum, and the next of the rows that are left
pub total_more : (row : Cells) (rest left : Rows) (sum number more total : ℤ) → left ≡ row ∷ rest → fold (λ s r. s +ℤ qty_of r) sum left ≡ total
    → number ≡ qty_of row → more ≡ sum +ℤ number → fold (λ s r. s +ℤ qty_of r) more rest ≡ total
total_more row rest left sum number more total next so is_number is_more = rw (is_more, is_number) (rw next at so)

-- the greatest number, and the next of the rows that are left
pub greatest_more : (row : Cells) (rest left : Rows) (top : Option ℤ) (number : ℤ) (more greatest : Option ℤ) → left ≡ row ∷ rest
    → fold (λ t r. greatest_with t (top_of r)) top left ≡ greatest → number ≡ top_of row → more ≡ greatest_with top number → fold (λ t r. greatest_with t (top_of r)) more rest ≡ greatest
greatest_more row rest left top number more greatest next so is_number is_more = rw (is_more, is_number) (rw next at so)
