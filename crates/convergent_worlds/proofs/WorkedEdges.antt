-- Scripts in which a number leaves its range: such an error of a snapshot site's transaction hinders no agreement, dropped or
-- not; one of a master's does, and a row whose insert stands in it is missing there. Where masters agree behind such drops, they
-- agree again from there on.
use Rattle.std.specs.Prelude.{◌≡◌, refl, ℕ, codes, pos, true, false, List, [], ◌∷◌, ◌++◌, Some, None}
use Rattle.std.specs.List.{AllByRecursion, list_any}
use Rattle.std.proofs.Common.{sym, ◌∙◌, subst}
use Rattle.std.proofs.lemmas.List.{append_cancel_right}
use mathlib.Core.Bool.{true≢false}
use Rattle.rep_values.specs.declared.name.SiteName.{SiteName}
use Rattle.rep_values.specs.declared.literal.Literal.TheVariants as literal
use Rattle.rep_values.specs.declared.value.Value.TheVariants.{Words}
use Rattle.rep_values.specs.declared.refusal.ApplyError.TheVariants as error
use Rattle.rep_values.specs.declared.refusal.Refusal.TheVariants as refusal
use Rattle.rep_schema.specs.declared.schema.Schema.{Schema}
use Rattle.rep_schema.specs.declared.schema.Kind.TheVariants as kind
use Rattle.rep_schema.specs.Tables.{Cells, Rows, rows_of}
use Rattle.rep_schema.specs.Groups.{group_columns_of}
use Rattle.rep_declare.specs.declared.declaration.Declare.TheVariants as declare
use Rattle.rep_declare.specs.Refusals.{columns_step}
use Rattle.schema_rules.specs.Rules.{broken_rule}
use Rattle.rep_calls.specs.declared.call.Call.{Call}
use Rattle.rep_calls.specs.declared.call.Call.TheVariants as call
use Rattle.rep_calls.specs.declared.call.Txn.{Txn}
use Rattle.rep_calls.specs.declared.statement.Statement.{Statement}
use Rattle.rep_calls.specs.declared.statement.Statement.TheVariants.{Insert, Update}
use Rattle.rep_calls.specs.declared.statement.How.TheVariants.{Add}
use Rattle.site_state.specs.declared.entry.Entry.{Entry}
use Rattle.site_state.specs.declared.entry.Entry.TheVariants as entry
use Rattle.site_state.specs.State.{SiteState}
use Rattle.site_state.specs.Contents.{tables_of}
use Rattle.site_state.proofs.WorkedSites.{a, b, s, n, key_column, number_column, of_calls}
use Rattle.site_events.specs.Cluster.{site_of}
use Rattle.event_laws.specs.Marks.{journal_in}
use Rattle.site_events.specs.Quiet.{are_quiet}
use Rattle.event_laws.proofs.Sites.{found_all, found_name}
use Rattle.convergence_laws.specs.QuietAgreement.{drops_of_master, NothingWasDropped, NothingWasDroppedSince, MastersAgree}
use Rattle.script_parse.specs.declared.command.Command.{Command}
use Rattle.script_parse.specs.declared.command.Command.TheVariants as command
use Rattle.world_state.proofs.WorkedScripts.{t, master_line, snapshot_site_line, table_line, added_up, resume, block, push, execute, drop_error, stepped, told, journal_at, rows_at}
use Rattle.world_laws.specs.Scripts.{script_world}
use Rattle.convergent_worlds.specs.Histories.{MastersAgreeAgain}

-- ---- what is declared

abbrev level_line : SiteName → ℕ → Command
level_line site level = command.Declare (declare.SiteLevel site (pos level))

-- amounts at two masters, with a snapshot site of A's: of A's first item nearly as much is there as can be
abbrev declared_lines : List Command
declared_lines =
    master_line a ∷ master_line b ∷ snapshot_site_line s a ∷ level_line a 1 ∷ level_line b 2 ∷ level_line s 3 ∷
    table_line (record { name = codes "HOME"; kind = kind.Site; key = true } ∷ key_column (codes "ID") ∷ number_column (codes "Q") ∷ []) ∷ [] ++ added_up ++
    command.Declare (declare.Convergent t) ∷ command.Snapshot s t None None ∷
    command.Row t (literal.Words a.0 ∷ literal.Num (pos 1) ∷ literal.Num (pos 999999999999990) ∷ []) ∷ resume ∷ []

abbrev amount : ℕ → ℕ → Cells
amount k q = Words a.0 ∷ n k ∷ n q ∷ []

abbrev adds : ℕ → ℕ → Statement
adds k q = Update t (literal.Words a.0 ∷ literal.Num (pos k) ∷ []) (record { column = codes "Q"; how = Add (pos q) } ∷ [])

-- Q of a row, changed
abbrev added : ℕ → ℕ → ℕ → Call
added k old new = call.Update 0 (Words a.0 ∷ n k ∷ []) (record { group = 0; old = n old ∷ []; new = n new ∷ [] } ∷ [])

abbrev nine_more : Txn
nine_more = of_calls (added 1 999999999999990 999999999999999 ∷ [])

-- ---- a snapshot site's error, which its master drops

-- A and its snapshot site add nine each, which is too much, and B has what A added
abbrev failing : List Command
failing = declared_lines ++ block a (adds 1 9 ∷ []) ++ block s (adds 1 9 ∷ []) ++ push a b ∷ push s a ∷ []

abbrev dropping : List Command
dropping = failing ++ drop_error a s 1 ∷ []

error_and_drop : journal_at a (script_world dropping)
    ≡ entry.Dropped s 1 ∷ entry.Error s 1 1 error.ValueRange nine_more ∷ entry.Local 1 nine_more ∷ []
unfolding group_columns_of columns_step broken_rule
error_and_drop = refl

-- the masters are quiet while the error stands, and behind the drop
quiet_with_the_error : are_quiet (script_world failing).sites ≡ true
unfolding group_columns_of columns_step broken_rule
quiet_with_the_error = refl

quiet_behind_the_drop : are_quiet (script_world dropping).sites ≡ true
unfolding group_columns_of columns_step broken_rule
quiet_behind_the_drop = refl

-- no master's transaction was dropped, so the law speaks of this world
nothing_was_dropped : NothingWasDropped (script_world dropping).schema (script_world dropping).sites
unfolding group_columns_of columns_step broken_rule
nothing_was_dropped site x found master =
    found_all (λ (y : SiteState). list_any (drops_of_master (script_world dropping).schema) y.journal ≡ false) site (script_world dropping).sites x (refl, (refl, (refl, tt))) found

rows_of_a : rows_at a (script_world dropping) ≡ (amount 1 999999999999999 ∷ []) ∷ []
unfolding group_columns_of columns_step broken_rule
rows_of_a = refl

rows_of_b : rows_at b (script_world dropping) ≡ (amount 1 999999999999999 ∷ []) ∷ []
unfolding group_columns_of columns_step broken_rule
rows_of_b = refl

-- ---- a master's error, in which an insert stands

-- A adds nine and inserts a second row, B adds nine; then A changes the second row
abbrev missing : List Command
missing = declared_lines
    ++ block a (adds 1 9 ∷ Insert t (literal.Words a.0 ∷ literal.Num (pos 2) ∷ literal.Num (pos 5) ∷ []) ∷ [])
    ++ block b (adds 1 9 ∷ []) ++ push a b ∷ block a (adds 2 1 ∷ []) ++ push a b ∷ []

abbrev nine_more_and_a_row : Txn
nine_more_and_a_row = of_calls (added 1 999999999999990 999999999999999 ∷ call.Insert 0 (amount 2 5) ∷ [])

-- the second row is missing at B, since its insert is in error there
row_is_missing : journal_at b (script_world missing)
    ≡ entry.Error a 2 1 error.NoRow (of_calls (added 2 5 6 ∷ [])) ∷ entry.Error a 1 1 error.ValueRange nine_more_and_a_row ∷ entry.Local 1 nine_more ∷ []
unfolding group_columns_of columns_step broken_rule
row_is_missing = refl

-- neither can be executed
abbrev executions : List Command
executions = execute b a 2 ∷ execute b a 1 ∷ []

both_still_fail : told 23 executions (script_world missing)
    ≡ record { line = 23; refusal = refusal.StillFails error.NoRow } ∷ record { line = 24; refusal = refusal.StillFails error.ValueRange } ∷ []
unfolding group_columns_of columns_step broken_rule
both_still_fail = refl

-- a master's error hinders quiet, and its drop is one of which the law asks that there is none
not_quiet : are_quiet (script_world missing).sites ≡ false
unfolding group_columns_of columns_step broken_rule
not_quiet = refl

drop_of_a_masters : list_any (drops_of_master (script_world missing).schema) (journal_at b (stepped 23 (drop_error b a 1 ∷ []) (script_world missing))) ≡ true
unfolding group_columns_of columns_step broken_rule
drop_of_a_masters = refl

-- ---- errors of both masters, which both drop

-- A and B add nine each, which is too much at the other one, and both drop the error
abbrev both_dropped : List Command
both_dropped = declared_lines ++ block a (adds 1 9 ∷ []) ++ block b (adds 1 9 ∷ []) ++ push a b ∷ push b a ∷ drop_error b a 1 ∷ drop_error a b 1 ∷ []

abbrev dropped_of : SiteName → List Entry
dropped_of other = entry.Dropped other 1 ∷ entry.Error other 1 1 error.ValueRange nine_more ∷ entry.Local 1 nine_more ∷ []

a_dropped : journal_at a (script_world both_dropped) ≡ dropped_of b
unfolding group_columns_of columns_step broken_rule
a_dropped = refl

b_dropped : journal_at b (script_world both_dropped) ≡ dropped_of a
unfolding group_columns_of columns_step broken_rule
b_dropped = refl

something_was_dropped : list_any (drops_of_master (script_world both_dropped).schema) (dropped_of a) ≡ true
unfolding group_columns_of columns_step broken_rule
something_was_dropped = refl

-- then they are quiet and agree
quiet_then : are_quiet (script_world both_dropped).sites ≡ true
unfolding group_columns_of columns_step broken_rule
quiet_then = refl

agree_then : MastersAgree (script_world both_dropped).schema (script_world both_dropped).sites
unfolding group_columns_of columns_step broken_rule
agree_then one other x y table found there master other_master convergent = have one x found master ∙ sym (have other y there other_master)
  where
    rows : List Rows
    rows = (amount 1 999999999999999 ∷ []) ∷ []

    have : (name : SiteName) (z : SiteState) → site_of name (script_world both_dropped).sites ≡ Some z → z.here.is_master ≡ true → rows_of (tables_of z) table ≡ rows_of rows table
    have name z at = found_all (λ (y : SiteState). y.here.is_master ≡ true → rows_of (tables_of y) table ≡ rows_of rows table) name (script_world both_dropped).sites z
        ((λ on. refl), ((λ on. refl), ((λ on. absurd (true≢false (sym on))), tt))) at

-- a second row of A's comes to B
abbrev inserted : Txn
inserted = of_calls (call.Insert 0 (amount 2 5) ∷ [])

abbrev more : List Command
more = block a (Insert t (literal.Words a.0 ∷ literal.Num (pos 2) ∷ literal.Num (pos 5) ∷ []) ∷ []) ++ push a b ∷ []

a_inserted : journal_at a (stepped 24 more (script_world both_dropped)) ≡ entry.Local 2 inserted ∷ dropped_of b
unfolding group_columns_of columns_step broken_rule
a_inserted = refl

b_did : journal_at b (stepped 24 more (script_world both_dropped)) ≡ entry.Done a 2 0 inserted ∷ dropped_of a
unfolding group_columns_of columns_step broken_rule
b_did = refl

quiet_later : are_quiet (stepped 24 more (script_world both_dropped)).sites ≡ true
unfolding group_columns_of columns_step broken_rule
quiet_later = refl

-- where a site has journalled more than it had earlier, no error of a master's transaction is dropped in it
abbrev DropsNothingSince : Schema → List SiteState → SiteState → Type 0
DropsNothingSince schema earlier x = (newer : List Entry) → x.journal ≡ newer ++ journal_in (site_of x.here.site earlier) → list_any (drops_of_master schema) newer ≡ false

-- so nothing was dropped, where it is so with each site
each_since : (schema : Schema) (earlier sites : List SiteState) → AllByRecursion (DropsNothingSince schema earlier) sites → NothingWasDroppedSince schema earlier sites
each_since schema earlier sites all site x newer found master grown = found_all (DropsNothingSince schema earlier) site sites x all found newer
    (subst (λ (name : SiteName). x.journal ≡ newer ++ journal_in (site_of name earlier)) (sym (found_name site sites x found)) grown)

-- by the entries that are new
newly : (schema : Schema) (new older : List Entry) → list_any (drops_of_master schema) new ≡ false → (newer : List Entry) → new ++ older ≡ newer ++ older → list_any (drops_of_master schema) newer ≡ false
newly schema new older none newer same = subst (λ (es : List Entry). list_any (drops_of_master schema) es ≡ false) (append_cancel_right new newer older same) none

nothing_since_then : NothingWasDroppedSince (script_world both_dropped).schema (script_world both_dropped).sites (stepped 24 more (script_world both_dropped)).sites
unfolding group_columns_of columns_step broken_rule
nothing_since_then = each_since (script_world both_dropped).schema (script_world both_dropped).sites (stepped 24 more (script_world both_dropped)).sites (
  newly (script_world both_dropped).schema (entry.Local 2 inserted ∷ []) (dropped_of b) refl,
  (newly (script_world both_dropped).schema (entry.Done a 2 0 inserted ∷ []) (dropped_of a) refl, (newly (script_world both_dropped).schema [] [] refl, tt)),
)

-- so they agree again, as the law says
agree_again : MastersAgreeAgain (script_world both_dropped) → MastersAgree (script_world both_dropped).schema (stepped 24 more (script_world both_dropped)).sites
unfolding group_columns_of columns_step broken_rule
agree_again law = law refl 24 more quiet_then agree_then quiet_later nothing_since_then

later_rows_of_a : rows_at a (stepped 24 more (script_world both_dropped)) ≡ (amount 1 999999999999999 ∷ amount 2 5 ∷ []) ∷ []
unfolding group_columns_of columns_step broken_rule
later_rows_of_a = refl

later_rows_of_b : rows_at b (stepped 24 more (script_world both_dropped)) ≡ (amount 1 999999999999999 ∷ amount 2 5 ∷ []) ∷ []
unfolding group_columns_of columns_step broken_rule
later_rows_of_b = refl
