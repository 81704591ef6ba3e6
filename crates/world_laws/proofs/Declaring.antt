-- What a script has declared so far stays well declared behind each line of Setup.
use Rattle.std.proofs.Common.{◌≡◌, ℕ, ◌<◌, ◌≤◌, List, [], ◌∷◌, length, Bool, true, false, cond, Some, None, refl, ap, arith}
use Rattle.std.specs.Prelude.{not, Option, IfSome}
use Rattle.std.specs.List.{AllByRecursion}
use Rattle.std.proofs.lemmas.List.{length_push}
use Rattle.std.proofs.lemmas.List.Quantifiers.{position-Some}
use Rattle.rep_lists.proofs.Each.{each_push}
use Rattle.rep_values.specs.declared.name.SiteName.{SiteName}
use Rattle.rep_values.specs.declared.name.TableName.{TableName}
use Rattle.rep_values.specs.declared.refusal.Refusal.TheVariants as refusal
use Rattle.rep_values.specs.RefusalSteps.{first_refusal, known}
use Rattle.rep_values.proofs.RefusalSteps.{or_then-None, refused-None}
use Rattle.rep_schema.specs.declared.schema.Schema.{Schema}
use Rattle.rep_schema.specs.Shape.{HasShape}
use Rattle.rep_schema.specs.Tables.{Rows, rows_of, AreTables}
use Rattle.rep_schema.specs.Entries.{plain_table}
use Rattle.rep_schema.specs.Named.{is_table, table_place}
use Rattle.rep_declare.specs.declared.declaration.Declare.{Declare}
use Rattle.rep_declare.specs.declared.declaration.Declare.TheVariants as declare
use Rattle.rep_declare.specs.Additions.{with_changed, declared}
use Rattle.rep_declare.specs.Shaping.{table_shaped, ShapesNoRows}
use Rattle.schema_rules.specs.Rules.{broken_rule}
use Rattle.site_state.specs.Steps.{is_empty}
use Rattle.snapshot_query.specs.declared.parent.Parent.{Parent}
use Rattle.site_events.specs.Rules.{IsParentWithin}
use Rattle.site_events.specs.Events.{master_of}
use Rattle.script_parse.specs.declared.command.ParentWords.{ParentWords}
use Rattle.script_parse.specs.declared.command.TestWords.{TestWords}
use Rattle.event_laws.proofs.Moves.{all_weaker}
use Rattle.world_state.specs.declared.declared_snapshot.DeclaredSnapshot.{DeclaredSnapshot}
use Rattle.world_state.specs.World.{WorldState}
use Rattle.world_state.specs.Phases.{rows_at, has_rows}
use Rattle.world_state.specs.Declaring.{has_snapshot, parent_at, parent_of, with_snapshot_at}
use Rattle.world_state.specs.Refusals.{snapshot_steps_by, named_snapshot_steps}
use Rattle.world_laws.specs.WellDeclared.{AreDeclaredOnce, AreParentsWithin, DeclaresWell}
use Rattle.world_laws.proofs.DeclaredSnapshots.{once-push}
use Rattle.world_laws.proofs.FilledTables.{AreTables-rows_made}

-- ---- a declaration

-- a table that isn't found to have rows has none
no_rows : (rows : Rows) → not (is_empty rows) ≡ false → rows ≡ []
no_rows [] none = refl
no_rows (row ∷ rows) none = absurd (cc none)

pub shapes_no_rows : (w : WorldState) (d : Declare) → has_rows w (table_shaped d) ≡ false → ShapesNoRows w.schema w.base d
shapes_no_rows w d none = go (table_shaped d) none
  where
    at : (place : Option ℕ) → not (is_empty (rows_at w.base place)) ≡ false → IfSome place (λ p. rows_of w.base p ≡ [])
    at None none = tt
    at (Some place) none = no_rows (rows_of w.base place) none

    go : (name : Option TableName) → has_rows w name ≡ false → IfSome name (λ n. IfSome (table_place w.schema n) (λ p. rows_of w.base p ≡ []))
    go None none = tt
    go (Some name) none = at (table_place w.schema name) none

length-with_changed : {X : Type 0} (test : X → Bool) (change : X → X) (xs : List X) → length (with_changed test change xs) ≡ length xs
length-with_changed test change [] = refl
length-with_changed {X = X} test change (x ∷ xs) = go (test x) (length-with_changed test change xs)
  where
    go : (b : Bool) → length (with_changed test change xs) ≡ length xs → length (cond b (change x ∷ xs) (x ∷ with_changed test change xs)) ≡ length (x ∷ xs)
    go true rest = refl
    go false rest = ap ℕ.suc rest

still_there : {X : Type 0} (test : X → Bool) (change : X → X) (xs : List X) → length xs ≤ length (with_changed test change xs)
still_there test change xs = let same = length-with_changed test change xs in omega (arith, same)

-- no table goes
pub tables_stay : (d : Declare) (schema : Schema) → length schema.tables ≤ length (declared d schema).tables
tables_stay (declare.Site name) schema = omega arith
tables_stay (declare.LateSite name) schema = omega arith
tables_stay (declare.SnapSite name master) schema = omega arith
tables_stay (declare.Table name columns) schema = omega (arith, length_push schema.tables (plain_table name columns))
tables_stay (declare.Group table group columns) schema = still_there (is_table table) _ schema.tables
tables_stay (declare.Method table group method) schema = still_there (is_table table) _ schema.tables
tables_stay (declare.Priority group value level) schema = omega arith
tables_stay (declare.SiteLevel site level) schema = omega arith
tables_stay (declare.Unique table constraint columns) schema = still_there (is_table table) _ schema.tables
tables_stay (declare.UniqueMethod table constraint method) schema = still_there (is_table table) _ schema.tables
tables_stay (declare.Check table check column rel value) schema = still_there (is_table table) _ schema.tables
tables_stay (declare.Convergent table) schema = still_there (is_table table) _ schema.tables

-- the snapshots are of tables of a schema
abbrev pub AreOfTables : Schema → List DeclaredSnapshot → Type 0
AreOfTables schema ds = AllByRecursion (λ (d : DeclaredSnapshot). d.table < length schema.tables) ds

pub of_tables-declared : (d : Declare) (schema : Schema) (ds : List DeclaredSnapshot) → AreOfTables schema ds → AreOfTables (declared d schema) ds
of_tables-declared d schema ds all = all_weaker (λ (s : DeclaredSnapshot). s.table < length schema.tables) (λ (s : DeclaredSnapshot). s.table < length (declared d schema).tables) ds
    (λ s below. let more = tables_stay d schema in omega (arith, below, more)) all

parent_within-declared : (d : Declare) (schema : Schema) (parent : Option Parent) → IsParentWithin schema parent → IsParentWithin (declared d schema) parent
parent_within-declared d schema None within = tt
parent_within-declared d schema (Some p) within = let more = tables_stay d schema in omega (arith, within, more)

pub parents_within-declared : (d : Declare) (schema : Schema) (ds : List DeclaredSnapshot) → AreParentsWithin schema ds → AreParentsWithin (declared d schema) ds
parents_within-declared d schema ds all = all_weaker (λ (s : DeclaredSnapshot). IsParentWithin schema s.parent) (λ (s : DeclaredSnapshot). IsParentWithin (declared d schema) s.parent) ds
    (λ s within. parent_within-declared d schema s.parent within) all

-- ---- a snapshot

pub record HasSnapshots (w : WorldState) : Type 0 where
  pub within : AreOfTables w.schema w.snapshots
  pub once : AreDeclaredOnce w.snapshots
  pub parents : AreParentsWithin w.schema w.snapshots

module _ (w : WorldState) (site : SiteName) (tests : List TestWords) where
  -- a snapshot that isn't refused is the first of its table at its site
  not_taken : (table : ℕ) (parent : Option ParentWords) → first_refusal (snapshot_steps_by w site table parent tests) ≡ None → has_snapshot w.snapshots site table ≡ false
  not_taken table None none = refused-None (has_snapshot w.snapshots site table) refusal.NameTaken (or_then-None _ _ none).0
  not_taken table (Some p) none = refused-None (has_snapshot w.snapshots site table) refusal.NameTaken (or_then-None _ _ none).0

  -- the table of its parents is there
  parent_there : (table : ℕ) (parent : Option ParentWords) → IsParentWithin w.schema (parent_of w.schema table parent tests)
  parent_there table None = tt
  parent_there table (Some p) = go (table_place w.schema p.table) refl
    where
      go : (found : Option ℕ) → table_place w.schema p.table ≡ found → IsParentWithin w.schema (parent_at w.schema table found p.columns tests)
      go None is = tt
      go (Some place) is = (position-Some (is_table p.table) w.schema.tables place (plain_table p.table []) is).0

pub has_snapshots-push : (w : WorldState) (site : SiteName) (name : TableName) (parent : Option ParentWords) (tests : List TestWords) → HasSnapshots w
    → first_refusal (named_snapshot_steps w site name parent tests) ≡ None → HasSnapshots (with_snapshot_at site (table_place w.schema name) parent tests w)
has_snapshots-push w site name parent tests has none = by_master (master_of w.schema site) none
  where
    by_table : (found : Option ℕ) → table_place w.schema name ≡ found → first_refusal (known found (λ place. snapshot_steps_by w site place parent tests)) ≡ None
        → HasSnapshots (with_snapshot_at site found parent tests w)
    by_table None is none = has
    by_table (Some table) is none = record {
      within = each_push (λ (d : DeclaredSnapshot). d.table < length w.schema.tables) w.snapshots _ has.within (position-Some (is_table name) w.schema.tables table (plain_table name []) is).0;
      once = once-push w.snapshots _ has.once (not_taken w site tests table parent none);
      parents = each_push (λ (d : DeclaredSnapshot). IsParentWithin w.schema d.parent) w.snapshots _ has.parents (parent_there w site tests table parent);
    }

    by_master : (found : Option SiteName) → first_refusal (known found (λ master. known (table_place w.schema name) (λ place. snapshot_steps_by w site place parent tests))) ≡ None
        → HasSnapshots (with_snapshot_at site (table_place w.schema name) parent tests w)
    by_master None none = absurd (cc none)
    by_master (Some master) none = by_table (table_place w.schema name) refl none

-- ---- Setup's end

-- what was declared so far is well declared where the schema breaks no rule
pub declares_well : (w : WorldState) → HasShape w.schema → AreTables w.schema w.base → HasSnapshots w → broken_rule w.schema ≡ None → DeclaresWell w
declares_well w shape rows has unbroken = record {
  sound = record { sound = record { shape = shape; unbroken = unbroken }; rows = AreTables-rows_made w.schema w.base unbroken rows; snapshots = has.within };
  once = has.once;
  parents = has.parents;
}
