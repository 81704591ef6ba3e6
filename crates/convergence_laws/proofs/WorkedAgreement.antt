-- A worked table with latest values: what calls make of a group, the pairs in it, and masters that begin alike or unlike.
use Rattle.std.specs.Prelude.{◌≡◌, refl, ℕ, ℤ, codes, pos, true, false, List, [], ◌∷◌, ◌++◌, Option, Some, None}
use Rattle.std.specs.List.{list_any}
use Rattle.std.specs.Option.{option_map}
use Rattle.std.proofs.Common.{sym, ◌∙◌, ap}
use mathlib.Core.Bool.{true≢false}
use Rattle.rep_values.specs.declared.name.SiteName.{SiteName}
use Rattle.rep_values.specs.declared.literal.Literal.TheVariants as literal
use Rattle.rep_values.specs.declared.value.Value.TheVariants.{Words}
use Rattle.rep_schema.specs.declared.schema.Schema.{Schema}
use Rattle.rep_schema.specs.declared.schema.SiteEntry.{SiteEntry}
use Rattle.rep_schema.specs.declared.schema.Kind.{Kind}
use Rattle.rep_schema.specs.declared.schema.Kind.TheVariants as kind
use Rattle.rep_schema.specs.declared.schema.Column.{Column}
use Rattle.rep_schema.specs.declared.schema.Method.TheVariants as method
use Rattle.rep_schema.specs.Tables.{Cells, Rows, rows_of}
use Rattle.rep_schema.specs.Groups.{group_columns_of}
use Rattle.schema_rules.specs.declared.forms.Form.TheVariants as form
use Rattle.rep_calls.specs.declared.call.Part.{Part}
use Rattle.rep_calls.specs.declared.call.Call.{Call}
use Rattle.rep_calls.specs.declared.call.Call.TheVariants.{Insert, Update}
use Rattle.rep_calls.specs.declared.statement.Statement.TheVariants as statement
use Rattle.rep_calls.specs.declared.statement.How.TheVariants.{To}
use Rattle.site_state.specs.declared.entry.Entry.{Entry}
use Rattle.site_state.specs.declared.entry.Entry.TheVariants as entry
use Rattle.site_state.specs.State.{SiteState}
use Rattle.site_state.specs.Contents.{tables_of}
use Rattle.rep_lists.specs.Counting.{count_where}
use Rattle.site_state.specs.Making.{master_here, new_site}
use Rattle.site_state.proofs.WorkedSites.{a, b, n, of_calls}
use Rattle.site_events.specs.Cluster.{Cluster, site_of}
use Rattle.site_events.specs.Events.{Event, Commit, Send, Deliver, Begin, Apply, run}
use Rattle.event_laws.specs.Marks.{journal_in}
use Rattle.site_events.specs.Quiet.{are_quiet}
use Rattle.event_laws.proofs.Sites.{found_all}
use Rattle.rep_laws.specs.GroupForms.{form_at}
use Rattle.event_laws.specs.Beginning.{RowsBeginAlike}
use Rattle.convergence_laws.specs.Pairs.{made_in, own_calls, pair_in, has_pair}
use Rattle.convergence_laws.specs.QuietAgreement.{drops_of_master, NothingWasDropped, NothingWasDroppedSince}

-- ---- a table of HOME, and a text with its stamp and site

abbrev master_at : SiteName → ℤ → SiteEntry
master_at site level = record { name = site; master = None; level = Some level; late = false }

abbrev column_of : List ℕ → Kind → Column
column_of name kind = record { name = name; kind = kind; key = false }

abbrev schema : Schema
schema = record {
  sites = master_at a (pos 1) ∷ master_at b (pos 2) ∷ [];
  tables = record {
    name = record { 0 = codes "T" };
    columns = record { name = codes "HOME"; kind = kind.Site; key = true } ∷ column_of (codes "W") kind.Words ∷ column_of (codes "C") kind.Stamp ∷ column_of (codes "BY") kind.Site ∷ [];
    groups = record { name = codes "w"; columns = 1 ∷ 2 ∷ 3 ∷ []; methods = method.Latest 2 ∷ method.SitePriority 3 ∷ [] } ∷ [];
    key_methods = [];
    constraints = [];
    checks = [];
    convergent = true;
  } ∷ [];
  priorities = [];
}

its_form : form_at schema 0 0 ≡ Some (form.Latest 2 3)
its_form = refl

-- ---- what is made

abbrev key : Cells
key = Words a.0 ∷ []

abbrev values : List ℕ → ℕ → SiteName → Cells
values text stamp site = Words text ∷ n stamp ∷ Words site.0 ∷ []

abbrev part : Cells → Cells → Part
part old new = record { group = 0; old = old; new = new }

-- an insert makes its row's values, an update the new ones of its part
abbrev insert : Call
insert = Insert 0 (Words a.0 ∷ values (codes "x") 1 a)

abbrev update : Call
update = Update 0 key (part (values (codes "x") 1 a) (values (codes "y") 2 a) ∷ [])

both_made : made_in schema 0 key 0 (insert ∷ update ∷ []) ≡ values (codes "x") 1 a ∷ values (codes "y") 2 a ∷ []
unfolding group_columns_of
both_made = refl

-- of another row they make nothing
none_made : made_in schema 0 (Words b.0 ∷ []) 0 (insert ∷ update ∷ []) ≡ []
none_made = refl

-- the calls of a site's own transactions, the oldest first; another one's isn't among them
own_alone : own_calls (entry.Done b 1 0 (of_calls (update ∷ [])) ∷ entry.Local 2 (of_calls (update ∷ [])) ∷ entry.Local 1 (of_calls (insert ∷ [])) ∷ []) ≡ insert ∷ update ∷ []
own_alone = refl

-- ---- pairs

stamp_and_site : pair_in (1 ∷ 2 ∷ 3 ∷ []) 2 3 (values (codes "y") 2 a) ≡ n 2 ∷ Words a.0 ∷ []
stamp_and_site = refl

made_once : count_where (has_pair (1 ∷ 2 ∷ 3 ∷ []) 2 3 (n 2 ∷ Words a.0 ∷ [])) (made_in schema 0 key 0 (insert ∷ update ∷ [])) ≡ 1
unfolding group_columns_of
made_once = refl

-- ---- masters that begin alike

abbrev base : List Rows
base = ((Words a.0 ∷ values (codes "x") 0 a) ∷ []) ∷ []

abbrev start : Cluster
start = record { sites = new_site schema (master_here schema a) [] [] base ∷ new_site schema (master_here schema b) [] [] base ∷ []; sent = []; begun = [] }

begins_alike : RowsBeginAlike schema start
begins_alike one other x y table found there master other_master convergent = base_of one x table found ∙ sym (base_of other y table there)
  where
    base_of : (name : SiteName) (x : SiteState) (table : ℕ) → site_of name start.sites ≡ Some x → rows_of x.base table ≡ rows_of base table
    base_of name x table found = found_all (λ (y : SiteState). rows_of y.base table ≡ rows_of base table) name start.sites x (refl, (refl, tt)) found

-- nothing has happened there: the masters are quiet, and nothing was dropped
are_quiet_at_first : are_quiet start.sites ≡ true
are_quiet_at_first = refl

nothing_dropped_at_first : NothingWasDropped schema start.sites
nothing_dropped_at_first site x found master = found_all (λ (y : SiteState). list_any (drops_of_master schema) y.journal ≡ false) site start.sites x (refl, (refl, tt)) found

-- the drop of an error of a master counts
drop_counts : drops_of_master schema (entry.Dropped b 1) ≡ true
drop_counts = refl

-- ---- what was dropped earlier, and since

abbrev dropped : SiteState
dropped = record (new_site schema (master_here schema a) [] [] base) { journal = entry.Dropped b 1 ∷ [] }

-- the drop counts since the start
drop_counts_since : NothingWasDroppedSince schema start.sites (dropped ∷ []) → ⊥
drop_counts_since kept = true≢false (kept a dropped (entry.Dropped b 1 ∷ []) refl refl refl)

-- and no more since it is there
drop_is_over : NothingWasDroppedSince schema (dropped ∷ []) (dropped ∷ [])
drop_is_over site x newer found master grown = go newer (sym (found_all (λ (y : SiteState). y.journal ≡ entry.Dropped b 1 ∷ []) site (dropped ∷ []) x (refl, tt) found) ∙ grown ∙ ap (λ o. newer ++ journal_in o) found ∙ ap (λ es. newer ++ es) (found_all (λ (y : SiteState). y.journal ≡ entry.Dropped b 1 ∷ []) site (dropped ∷ []) x (refl, tt) found))
  where
    go : (newer : List Entry) → entry.Dropped b 1 ∷ [] ≡ newer ++ entry.Dropped b 1 ∷ [] → list_any (drops_of_master schema) newer ≡ false
    go [] is = refl
    go (e ∷ []) is = cc
    go (e ∷ f ∷ es) is = cc

-- ---- masters that begin unlike

abbrev unlike : Cluster
unlike = record {
  sites = new_site schema (master_here schema a) [] [] base ∷ new_site schema (master_here schema b) [] [] (((Words a.0 ∷ values (codes "y") 0 a) ∷ []) ∷ []) ∷ [];
  sent = [];
  begun = [];
}

-- the rows at a site
abbrev rows_at : SiteName → Cluster → Option Rows
rows_at site w = option_map (λ (x : SiteState). rows_of (tables_of x) 0) (site_of site w.sites)

first_at_a : rows_at a unlike ≡ Some ((Words a.0 ∷ values (codes "x") 0 a) ∷ [])
first_at_a = refl

first_at_b : rows_at b unlike ≡ Some ((Words a.0 ∷ values (codes "y") 0 a) ∷ [])
first_at_b = refl

-- one change, with a later stamp than both have, comes to both; the latest event stands first
abbrev change : Event
change = Commit a (statement.Update (record { 0 = codes "T" }) (literal.Words a.0 ∷ []) (record { column = codes "W"; how = To (literal.Words (codes "z")) } ∷ []) ∷ [])

abbrev after_a_change : Cluster
after_a_change = run (Apply b a 1 ∷ Begin b ∷ Deliver 0 ∷ Send a b 1 ∷ change ∷ []) unlike

-- so that they are quiet and agree, as they never did
quiet_after : are_quiet after_a_change.sites ≡ true
unfolding group_columns_of
quiet_after = refl

agree_after_at_a : rows_at a after_a_change ≡ Some ((Words a.0 ∷ values (codes "z") 1 a) ∷ [])
unfolding group_columns_of
agree_after_at_a = refl

agree_after_at_b : rows_at b after_a_change ≡ Some ((Words a.0 ∷ values (codes "z") 1 a) ∷ [])
unfolding group_columns_of
agree_after_at_b = refl
