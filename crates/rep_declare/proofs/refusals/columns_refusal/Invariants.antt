-- The columns that a line names.
use Rattle.std.proofs.Common.{◌≡◌, ◌==◌, [], take, drop}
use Rattle.std.specs.List.{list_any}
use Rattle.rep_declare.specs.Refusals.{columns_step}
use Rattle.rep_declare.proofs.refusals.columns_refusal.Given as goal

-- none of those of the front is refused
abbrev pub invariant-loop-i : goal.invariant-loop-i
invariant-loop-i g l = record {
  rest : columns_step l.columns (λ place. list_any (λ x. list_any (λ c. c == place) (g.X.OnColumns.columns x)) l.others) (take l.i l.names) (drop l.i l.names)
      ≡ columns_step l.columns (λ place. list_any (λ x. list_any (λ c. c == place) (g.X.OnColumns.columns x)) l.others) [] l.names;
}
