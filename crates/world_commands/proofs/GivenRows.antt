-- What snapshots show of a master's tables is given for the table of each of them.
use Rattle.std.proofs.Common.{◌≡◌, ◌≢◌, zero, suc, List, [], ◌∷◌, map, refl, arith}
use Rattle.std.specs.List.{Any, AllByRecursion}
use Rattle.rep_schema.specs.declared.schema.Schema.{Schema}
use Rattle.rep_schema.specs.Tables.{Rows, IsTable}
use Rattle.snapshot_query.specs.declared.snapshot.Snapshot.{Snapshot}
use Rattle.site_state.specs.declared.rows.TableRows.{TableRows}
use Rattle.site_events.specs.Rules.{table_ruled, rows_ruled}
use Rattle.site_state.specs.Fits.{SnapshotsApart}
use Rattle.refreshes.specs.Refreshing.{AreGivenOnce, AreGivenFor}

any_first : {X : Type 0} (P : X → Type 0) (x : X) (xs : List X) → P x → Any P (x ∷ xs)
any_first P x xs holds = (zero, x, omega arith, refl, holds)

any_later : {X : Type 0} (P : X → Type 0) (x : X) (xs : List X) → Any P xs → Any P (x ∷ xs)
any_later P x xs any = (suc any.0, any.1, omega (arith, any.2), any.3, any.4)

all_then : {X : Type 0} (P Q : X → Type 0) → ((x : X) → P x → Q x) → (xs : List X) → AllByRecursion P xs → AllByRecursion Q xs
all_then P Q each [] all = tt
all_then P Q each (x ∷ xs) all = (each x all.0, all_then P Q each xs all.1)

module _ (schema : Schema) (tables : List Rows) where
  -- what one of them shows
  abbrev shown_of : Snapshot → TableRows
  shown_of s = table_ruled schema tables s

  abbrev IsOf : Snapshot → TableRows → Type 0
  IsOf s t = t.table ≡ s.table

  abbrev Has : TableRows → Snapshot → Type 0
  Has t s = s.table ≡ t.table

  each_given : (ss : List Snapshot) → AllByRecursion (λ (s : Snapshot). Any (IsOf s) (map shown_of ss)) ss
  each_given [] = tt
  each_given (s ∷ ss) = (
    any_first (IsOf s) (shown_of s) (map shown_of ss) refl,
    all_then (λ (u : Snapshot). Any (IsOf u) (map shown_of ss)) (λ (u : Snapshot). Any (IsOf u) (shown_of s ∷ map shown_of ss)) (λ u any. any_later (IsOf u) (shown_of s) (map shown_of ss) any) ss (each_given ss),
  )

  no_others : (ss : List Snapshot) → AllByRecursion (λ (t : TableRows). Any (Has t) ss) (map shown_of ss)
  no_others [] = tt
  no_others (s ∷ ss) = (
    any_first (Has (shown_of s)) s ss refl,
    all_then (λ (t : TableRows). Any (Has t) ss) (λ (t : TableRows). Any (Has t) (s ∷ ss)) (λ t any. any_later (Has t) s ss any) (map shown_of ss) (no_others ss),
  )

  others_given : (s : Snapshot) (ss : List Snapshot) → AllByRecursion (λ (u : Snapshot). u.table ≢ s.table) ss → AllByRecursion (λ (other : TableRows). other.table ≢ s.table) (map shown_of ss)
  others_given s [] apart = tt
  others_given s (u ∷ ss) apart = (apart.0, others_given s ss apart.1)

  given_once : (ss : List Snapshot) → SnapshotsApart ss → AreGivenOnce (map shown_of ss)
  given_once [] apart = tt
  given_once (s ∷ ss) apart = (others_given s ss apart.0, given_once ss apart.1)

  -- so a refresh may go by them, where no table has two snapshots and what is shown is a table
  pub shown_are_given : (ss : List Snapshot) → SnapshotsApart ss → AllByRecursion (λ (t : TableRows). IsTable schema t.table t.rows) (rows_ruled schema tables ss) → AreGivenFor schema ss (rows_ruled schema tables ss)
  shown_are_given ss apart picked = record { each = each_given ss; others = no_others ss; once = given_once ss apart; tables = picked }
