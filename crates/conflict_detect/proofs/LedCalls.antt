-- The calls of changes that lead from tables to others.
use Rattle.std.proofs.Common.{◌≢◌, List, [], ◌∷◌, map}
use Rattle.std.specs.List.{AllByRecursion}
use Rattle.rep_schema.specs.declared.schema.Schema.{Schema}
use Rattle.rep_schema.specs.declared.change.Change.{Change}
use Rattle.rep_schema.specs.Shape.{HasShape}
use Rattle.rep_schema.specs.Tables.{Rows, AreTables}
use Rattle.rep_schema.specs.Changes.{after_change, ChangeFits, LeadsTo}
use Rattle.rep_schema.proofs.TakingBack.{AreTables-made}
use Rattle.rep_schema.proofs.Leading.{ChangeFits-from_IsChange}
use Rattle.conflict_detect.specs.ChangeCalls.{call_of}
use Rattle.conflict_detect.specs.Fits.{CallFits}
use Rattle.conflict_detect.proofs.CallFit.{CallFits-call_of}

module _ (schema : Schema) where
  -- changes that lead from tables to others, each of rows that differ, fit
  pub ChangeFits-led : (changes : List Change) (earlier later : List Rows) → AreTables schema earlier → LeadsTo schema changes earlier later
      → AllByRecursion (λ change. change.before ≢ change.after) changes → AllByRecursion (ChangeFits schema) changes
  ChangeFits-led [] earlier later are lead differ = tt
  ChangeFits-led (change ∷ changes) earlier later are lead differ = (
    ChangeFits-from_IsChange schema change earlier are lead.0 differ.0,
    ChangeFits-led changes (after_change schema change earlier) later (AreTables-made schema change earlier are lead.0) lead.1 differ.1,
  )

  -- and so do their calls
  pub CallFits-led : (changes : List Change) → HasShape schema → AllByRecursion (ChangeFits schema) changes → AllByRecursion (CallFits schema) (map (call_of schema) changes)
  CallFits-led [] shape fits = tt
  CallFits-led (change ∷ changes) shape fits = (CallFits-call_of schema change shape fits.0, CallFits-led changes shape fits.1)
