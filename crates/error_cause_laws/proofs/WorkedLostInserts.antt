-- A worked row whose insert is in error at one master: there another master's update of it fails, though causal marks have it
-- wait for the insert; and so it does at a master that joins as a copy of that one.
use Rattle.std.specs.Prelude.{◌≡◌, refl, ◌++◌, ℕ, ℤ, Bool, codes, pos, negsuc, true, false, reverse, List, [], ◌∷◌, Some, None}
use Rattle.rep_values.specs.declared.name.SiteName.{SiteName}
use Rattle.rep_values.specs.declared.literal.Literal.TheVariants as literal
use Rattle.rep_values.specs.declared.value.Value.TheVariants.{Words}
use Rattle.rep_values.specs.declared.refusal.ApplyError.TheVariants as error
use Rattle.rep_values.specs.declared.refusal.Refusal.TheVariants as refusal
use Rattle.rep_schema.specs.declared.schema.Schema.{Schema}
use Rattle.rep_schema.specs.declared.schema.SiteEntry.{SiteEntry}
use Rattle.rep_schema.specs.declared.schema.Kind.TheVariants as kind
use Rattle.rep_schema.specs.declared.schema.Method.TheVariants as method
use Rattle.rep_schema.specs.Tables.{Cells}
use Rattle.rep_schema.specs.Groups.{group_columns_of}
use Rattle.schema_rules.specs.Rules.{broken_rule}
use Rattle.rep_calls.specs.declared.statement.Statement.{Statement}
use Rattle.rep_calls.specs.declared.statement.Statement.TheVariants.{Insert, Update}
use Rattle.rep_calls.specs.declared.statement.How.TheVariants.{Add}
use Rattle.site_state.specs.declared.entry.Entry.{Entry}
use Rattle.site_state.specs.declared.entry.Entry.TheVariants as entry
use Rattle.rep_lists.specs.Counting.{count_where}
use Rattle.site_state.specs.Errors.{execute_refusal}
use Rattle.site_state.proofs.WorkedSites.{a, b, c, d, n, named, number_column}
use Rattle.site_events.specs.Cluster.{Cluster}
use Rattle.site_events.specs.Events.{Event, Commit, Execute, Drop, Join, run}
use Rattle.site_events.specs.Quiet.{are_quiet}
use Rattle.event_laws.proofs.WorkedRuns.{masters, pushed, shown, journal_at, rows_at}
use Rattle.error_cause_laws.specs.LostInserts.{insert_is_lost, insert_was_dropped, dropped_before}

-- ---- a table of HOME and ID, with a number that is added up; at first its one row is one below the greatest number

abbrev e : SiteName
e = named (codes "E")

abbrev master_at : SiteName → ℕ → Bool → SiteEntry
master_at site level late = record { name = site; master = None; level = Some (pos level); late = late }

abbrev schema : Schema
schema = record {
  sites = master_at a 1 false ∷ master_at b 2 false ∷ master_at c 3 false ∷ master_at d 4 true ∷ master_at e 5 true ∷ [];
  tables = record {
    name = record { 0 = codes "T" };
    columns = record { name = codes "HOME"; kind = kind.Site; key = true } ∷ record { name = codes "ID"; kind = kind.Number; key = true } ∷ number_column (codes "Q") ∷ [];
    groups = record { name = codes "q"; columns = 2 ∷ []; methods = method.Additive ∷ [] } ∷ [];
    key_methods = [];
    constraints = [];
    checks = [];
    convergent = true;
  } ∷ [];
  priorities = [];
}

breaks_no_rule : broken_rule schema ≡ None
unfolding broken_rule
breaks_no_rule = refl

abbrev row : ℕ → ℕ → Cells
row id q = Words a.0 ∷ n id ∷ n q ∷ []

abbrev key : Cells
key = Words a.0 ∷ n 1 ∷ []

abbrev start : Cluster
start = masters schema (row 0 999999999999999 ∷ []) (a ∷ b ∷ c ∷ [])

-- events with the oldest first
abbrev after : List Event → Cluster
after events = run (reverse events) start

abbrev inserted : Statement
inserted = Insert (record { 0 = codes "T" }) (literal.Words a.0 ∷ literal.Num (pos 1) ∷ literal.Num (pos 10) ∷ [])

abbrev added : ℕ → ℤ → Statement
added id q = Update (record { 0 = codes "T" }) (literal.Words a.0 ∷ literal.Num (pos id) ∷ []) (record { column = codes "Q"; how = Add q } ∷ [])

-- ---- C has reached the greatest number, and then A's insert comes there with one more: its transaction is in error

abbrev insert_fails : List Event
insert_fails = Commit c (added 0 (pos 1) ∷ []) ∷ Commit a (inserted ∷ added 0 (pos 1) ∷ []) ∷ pushed a b (1 ∷ []) ++ pushed a c (1 ∷ [])

-- B's update of the row comes to C behind A's insert, as causal marks want it
abbrev update_fails : List Event
update_fails = insert_fails ++ Commit b (added 1 (pos 5) ∷ []) ∷ pushed b c (1 ∷ [])

abbrev is_no_row : Entry → Bool
is_no_row (entry.Local number txn) = false
is_no_row (entry.Done o p onward txn) = false
is_no_row (entry.Error o p call error.NoRow txn) = true
is_no_row (entry.Error o p call error.DeleteConflict txn) = false
is_no_row (entry.Error o p call (error.UpdateConflict group) txn) = false
is_no_row (entry.Error o p call (error.UniqueConflict constraint) txn) = false
is_no_row (entry.Error o p call error.ValueRange txn) = false
is_no_row (entry.Error o p call (error.CheckFailed check) txn) = false
is_no_row (entry.Executed o p onward txn) = false
is_no_row (entry.Dropped o p) = false
is_no_row (entry.Refreshed moment) = false

one_row_is_missing : count_where is_no_row (journal_at c (after update_fails)) ≡ 1
unfolding group_columns_of
one_row_is_missing = refl

-- the row's insert is in error there
insert_stands : insert_is_lost schema 0 key (journal_at c (after insert_fails)) ≡ true
unfolding group_columns_of
insert_stands = refl

-- it isn't at B, and no other row's is
not_at_b : insert_is_lost schema 0 key (journal_at b (after insert_fails)) ≡ false
unfolding group_columns_of
not_at_b = refl

no_other_row : insert_is_lost schema 0 (Words a.0 ∷ n 2 ∷ []) (journal_at c (after insert_fails)) ≡ false
unfolding group_columns_of
no_other_row = refl

-- ---- the error of the insert is dropped: an execution of the update is refused, and the insert is lost as before

abbrev insert_dropped : List Event
insert_dropped = update_fails ++ Drop c a 1 ∷ []

still_no_row : shown None (execute_refusal b 1) c (after insert_dropped) ≡ Some (refusal.StillFails error.NoRow)
unfolding group_columns_of
still_no_row = refl

insert_is_dropped : insert_was_dropped schema 0 key (journal_at c (after insert_dropped)) ≡ true
unfolding group_columns_of
insert_is_dropped = refl

dropped_is_lost : insert_is_lost schema 0 key (journal_at c (after insert_dropped)) ≡ true
unfolding group_columns_of
dropped_is_lost = refl

-- ---- or it is executed, where there is room again: then it isn't lost, and the update can be executed

abbrev insert_executed : List Event
insert_executed = update_fails ++ Commit c (added 0 (negsuc 4) ∷ []) ∷ Execute c a 1 ∷ Execute c b 1 ∷ []

executed_is_not_lost : insert_is_lost schema 0 key (journal_at c (after insert_executed)) ≡ false
unfolding group_columns_of
executed_is_not_lost = refl

both_rows : rows_at c (after insert_executed) ≡ (row 0 999999999999996 ∷ row 1 15 ∷ []) ∷ []
unfolding group_columns_of
both_rows = refl

-- ---- D joins as a copy of C, where the insert was dropped; then B's next update comes to D

abbrev made_quiet : List Event
made_quiet = insert_dropped ++ Drop c b 1 ∷ pushed c a (1 ∷ []) ++ pushed c b (1 ∷ []) ++ Drop a c 1 ∷ Drop b c 1 ∷ pushed b a (1 ∷ [])

all_is_quiet : are_quiet (after made_quiet).sites ≡ true
unfolding group_columns_of
all_is_quiet = refl

abbrev update_fails_at_d : List Event
update_fails_at_d = made_quiet ++ Join d c ∷ Commit b (added 1 (pos 1) ∷ []) ∷ pushed b d (1 ∷ [])

one_is_missing_at_d : count_where is_no_row (journal_at d (after update_fails_at_d)) ≡ 1
unfolding group_columns_of
one_is_missing_at_d = refl

-- the insert isn't lost at D, but was dropped at C before D joined
not_lost_at_d : insert_is_lost schema 0 key (journal_at d (after update_fails_at_d)) ≡ false
unfolding group_columns_of
not_lost_at_d = refl

dropped_before_d : dropped_before schema 0 key (reverse update_fails_at_d) start d ≡ true
unfolding group_columns_of
dropped_before_d = refl

not_before_c : dropped_before schema 0 key (reverse update_fails_at_d) start c ≡ false
unfolding group_columns_of
not_before_c = refl

-- ---- E joins as a copy of D, where nothing of the insert was dropped: it was before D joined

abbrev e_joins : List Event
e_joins = update_fails_at_d ++ Drop d b 1 ∷ pushed b a (2 ∷ []) ++ pushed b c (2 ∷ []) ++ Drop c b 2 ∷ Join e d ∷ []

e_is_there : rows_at e (after e_joins) ≡ (row 0 1000000000000000 ∷ []) ∷ []
unfolding group_columns_of
e_is_there = refl

not_dropped_at_d : insert_was_dropped schema 0 key (journal_at d (after e_joins)) ≡ false
unfolding group_columns_of
not_dropped_at_d = refl

dropped_before_e : dropped_before schema 0 key (reverse e_joins) start e ≡ true
unfolding group_columns_of
dropped_before_e = refl
