-- The rule of a snapshot picks what the snapshot picks, and what isn't up to date by it is what isn't up to date.
use Rattle.std.proofs.Common.{◌≡◌, List, [], ◌∷◌, ◌++◌, map, Bool, Some, None, refl, sym, ap, subst}
use Rattle.std.specs.Prelude.{Option, filter}
use Rattle.rep_schema.specs.declared.schema.Schema.{Schema}
use Rattle.rep_schema.specs.Tables.{Cells, Rows, columns_of, key_of, rows_of}
use Rattle.snapshot_query.specs.declared.query.Query.{Query}
use Rattle.snapshot_query.specs.declared.parent.Parent.{Parent}
use Rattle.snapshot_query.specs.declared.snapshot.Snapshot.{Snapshot}
use Rattle.snapshot_query.specs.Queries.{matches}
use Rattle.snapshot_query.specs.Parents.{parent_key, has_parent, picks, picks_by}
use Rattle.change_logs.specs.LogState.{LogState}
use Rattle.change_logs.specs.Noting.{pending_keys}
use Rattle.site_events.specs.Rules.{pending_parents}
use Rattle.refreshes.specs.Showing.{has_key, ShowsOthers}
use Rattle.event_laws.specs.WaitingRows.{waits_for, outdated_keys}
use Rattle.subquery_snapshots.specs.declared.rule.Rule.{Rule}
use Rattle.subquery_snapshots.specs.declared.rule.Rule.TheVariants as rules
use Rattle.subquery_snapshots.specs.Rules.{rule_picks, waits, ShowsUpToDate}
use Rattle.world_commands.specs.Ruled.{IsRuleOf}

-- the rule of a snapshot picks the rows that the snapshot picks
same_picks : (schema : Schema) (tables : List Rows) (query : Query) (parent : Option Parent) (rule : Rule) → IsRuleOf query parent rule → rule_picks schema tables rule ≡ picks_by schema tables query parent
same_picks schema tables query None (rules.Whole own) is = ap matches is
same_picks schema tables query None (rules.Parent p) is = absurd is
same_picks schema tables query (Some p) (rules.Whole own) is = absurd is
same_picks schema tables query (Some p) (rules.Parent q) is = ap (has_parent schema tables) is

-- by the rule the same rows wait
same_waits : (parents : List Cells) (query : Query) (parent : Option Parent) (rule : Rule) → IsRuleOf query parent rule → waits rule parents ≡ waits_for parent parents
same_waits parents query None (rules.Whole own) is = refl
same_waits parents query None (rules.Parent p) is = absurd is
same_waits parents query (Some p) (rules.Whole own) is = absurd is
same_waits parents query (Some p) (rules.Parent q) is = ap {B = Cells → Bool} (λ (r : Parent). λ (row : Cells). has_key (parent_key r row) parents) is

-- so a table that has what the snapshot shows of each up-to-date row has what the rule shows of it
pub up_to_date_so : (schema : Schema) (tables : List Rows) (s : Snapshot) (rule : Rule) (logs : List LogState) (own : Rows) → IsRuleOf s.query s.parent rule
    → ShowsOthers (columns_of schema s.table) (picks schema tables s) (outdated_keys schema logs tables s) (rows_of tables s.table) own
    → ShowsUpToDate schema tables s.table rule (pending_keys logs s) (pending_parents logs s) own
up_to_date_so schema tables s rule logs own is shows =
    let columns = columns_of schema s.table in
    let rows = rows_of tables s.table in
    let pending = pending_keys logs s in
    subst (λ (test : Cells → Bool). ShowsOthers columns test (pending ++ map (key_of columns) (filter (waits rule (pending_parents logs s)) rows)) rows own) (sym (same_picks schema tables s.query s.parent rule is))
    (subst (λ (test : Cells → Bool). ShowsOthers columns (picks schema tables s) (pending ++ map (key_of columns) (filter test rows)) rows own) (sym (same_waits (pending_parents logs s) s.query s.parent rule is)) shows)

-- every row passes no tests
pub all_pass : (rows : Rows) → filter (matches (record { tests = [] })) rows ≡ rows
all_pass [] = refl
all_pass (row ∷ rows) = ap (λ (more : Rows). row ∷ more) (all_pass rows)
