-- Settling constraint by constraint.
use Rattle.std.proofs.Common.{◌≡◌, ℕ, suc, ◌+◌, ◌<◌, List, [], ◌∷◌, ◌++◌, append_assoc, length, take, drop, get_or, set, Some, refl, sym, ap, arith}
use Rattle.std.specs.Prelude.{slice_get}
use Rattle.std.proofs.lemmas.List.{drop_more, set_split, drop-set-lt}
use Rattle.std.proofs.Math.Seq.{take-suc-set}
use Rattle.std.proofs.lemmas.Option.{slice_get_within}
use Rattle.rep_lists.proofs.Places.{drop_from_found}
use Rattle.rep_values.specs.declared.name.SiteName.{SiteName}
use Rattle.rep_values.specs.declared.name.Name.{Name}
use Rattle.rep_schema.specs.declared.schema.Column.{Column}
use Rattle.rep_schema.specs.declared.schema.Constraint.{Constraint}
use Rattle.rep_schema.specs.Tables.{Cells, Rows}
use Rattle.unique_resolve.specs.declared.settled.Settled.{Settled}
use Rattle.unique_resolve.specs.declared.settled.Settled.TheVariants.{Fits, Dropped, Conflict}
use Rattle.unique_resolve.specs.Settling.{TableOutcome, go_on, settled_one, settled_each}

-- an outcome with further numbers before its own
abbrev pub outcome_behind : List ℕ → TableOutcome → TableOutcome
outcome_behind numbers outcome = record { settled = outcome.settled; numbers = numbers ++ outcome.numbers }

-- one constraint more, of those from a place on
module _ (columns : List Column) (rows : Rows) (origin : SiteName) (constraints : List Constraint) (numbers : List ℕ) (i : ℕ) (c : Constraint) (row : Cells)
    (there : slice_get constraints i ≡ Some c) (long : length numbers ≡ length constraints) (settled : Settled) (number : ℕ)
    (one : settled_one columns rows origin c row (get_or numbers i 0) ≡ record { settled = settled; number = number })
    (whole : TableOutcome) (rest : whole ≡ outcome_behind (take i numbers) (settled_each columns rows origin (drop i constraints) (drop i numbers) row)) where
  in_numbers : i < length numbers
  in_numbers = omega (arith, slice_get_within constraints i c there, long)

  -- it comes first
  settled_first : settled_each columns rows origin (drop i constraints) (drop i numbers) row ≡ go_on settled number (drop (i + 1) numbers) (settled_each columns rows origin (drop (i + 1) constraints) (drop (i + 1) numbers))
  settled_first =
      rw (drop_from_found constraints i c there, drop_more numbers i 0 in_numbers, one) refl

  written_split : take i numbers ++ number ∷ drop (i + 1) numbers ≡ set numbers i number
  written_split =
      let next : i + 1 ≡ suc i = omega arith in
      rw next (sym (set_split numbers i number in_numbers))

  -- a row that is given up
  pub each-dropped : settled ≡ Dropped → whole ≡ record { settled = Dropped; numbers = set numbers i number }
  each-dropped dropped = rw (rest, settled_first, dropped, written_split) refl

  -- a constraint with which no method helps
  pub each-conflict : (name : Name) → settled ≡ Conflict name → whole ≡ record { settled = Conflict name; numbers = set numbers i number }
  each-conflict name conflict = rw (rest, settled_first, conflict, written_split) refl

  -- one that fits, behind which the others go on
  pub each-fits : (after : Cells) → settled ≡ Fits after
      → whole ≡ outcome_behind (take (i + 1) (set numbers i number)) (settled_each columns rows origin (drop (i + 1) constraints) (drop (i + 1) (set numbers i number)) after)
  each-fits after fits =
      let next : i + 1 ≡ suc i = omega arith in
      let front : take (i + 1) (set numbers i number) ≡ take i numbers ++ number ∷ [] = rw next (take-suc-set numbers i number in_numbers) in
      let back : drop (i + 1) (set numbers i number) ≡ drop (i + 1) numbers = drop-set-lt (i + 1) numbers i number (omega arith) in
      let others : TableOutcome = settled_each columns rows origin (drop (i + 1) constraints) (drop (i + 1) numbers) after in
      rw (rest, settled_first, fits, front, back) (ap (λ ns. record { settled = others.settled; numbers = ns }) (sym (append_assoc (take i numbers) (number ∷ []) others.numbers)))
