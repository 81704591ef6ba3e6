-- The values that transactions make of a group of a row, and the pairs of a stamp and a site in them.
use Rattle.std.specs.Prelude.{◌≡◌, ℕ, ◌<◌, ◌≤◌, Bool, true, List, [], ◌∷◌, ◌++◌, map, Option, Some, None, pos}
use Rattle.rep_values.specs.declared.name.SiteName.{SiteName}
use Rattle.rep_values.specs.declared.value.Value.{Value}
use Rattle.rep_values.specs.declared.value.Value.TheVariants.{Num, Words}
use Rattle.rep_schema.specs.declared.schema.Schema.{Schema}
use Rattle.rep_schema.specs.Tables.{Cells}
use Rattle.rep_schema.specs.Groups.{group_columns_of, values_at, are_same}
use Rattle.schema_rules.specs.declared.forms.Form.TheVariants as form
use Rattle.rep_calls.specs.declared.call.Part.{Part}
use Rattle.rep_calls.specs.declared.call.Call.{Call}
use Rattle.rep_calls.specs.declared.call.Txn.{Txn}
use Rattle.txn_effects.specs.Convergent.{is_convergent}
use Rattle.site_state.specs.declared.entry.Entry.{Entry}
use Rattle.site_state.specs.declared.entry.Entry.TheVariants.{Local, Done, Error, Executed, Dropped, Refreshed}
use Rattle.site_state.specs.State.{SiteState}
use Rattle.rep_lists.specs.Counting.{count_where}
use Rattle.site_state.specs.Streams.{queue_of}
use Rattle.site_events.specs.Cluster.{Cluster, site_of}
use Rattle.site_events.specs.Events.{Event, run}
use Rattle.event_laws.specs.Fitting.{IsFitStart}
use Rattle.rep_laws.specs.GroupForms.{form_at, value_of}
use Rattle.convergence_laws.specs.Joins.{parts_for, inserts_for}
use Rattle.convergence_laws.specs.Collections.{Among}

-- ---- what is made

-- the values that a call makes of a group of a row: those of an inserted row, or the new ones of its parts
abbrev pub made_by : Schema → ℕ → Cells → ℕ → Call → List Cells
made_by schema table key group call = map (values_at (group_columns_of schema table group)) (inserts_for schema table key call) ++ map (λ (part : Part). part.new) (parts_for table key group call)

-- those that calls make, one after the other
abbrev pub made_in : Schema → ℕ → Cells → ℕ → List Call → List Cells
made_in schema table key group [] = []
made_in schema table key group (call ∷ calls) = made_by schema table key group call ++ made_in schema table key group calls

-- the calls of transactions of which the newest stands first, the oldest call first
abbrev pub calls_in : List Txn → List Call
calls_in [] = []
calls_in (txn ∷ txns) = calls_in txns ++ txn.calls

-- the calls of a site's own transactions, the oldest first
abbrev pub own_calls : List Entry → List Call
own_calls [] = []
own_calls (Local number txn ∷ es) = own_calls es ++ txn.calls
own_calls (Done origin position onward txn ∷ es) = own_calls es
own_calls (Error origin position call error txn ∷ es) = own_calls es
own_calls (Executed origin position onward txn ∷ es) = own_calls es
own_calls (Dropped origin position ∷ es) = own_calls es
own_calls (Refreshed moment ∷ es) = own_calls es

-- ---- pairs

abbrev pub listed : Option Value → Cells
listed None = []
listed (Some value) = value ∷ []

-- the stamp and the site of a group's values
abbrev pub pair_in : List ℕ → ℕ → ℕ → Cells → Cells
pair_in columns stamp site values = listed (value_of columns values stamp) ++ listed (value_of columns values site)

abbrev pub has_pair : List ℕ → ℕ → ℕ → Cells → Cells → Bool
has_pair columns stamp site pair values = are_same (pair_in columns stamp site values) pair

-- how often a site made a pair: at most once, and then it has its name and a stamp above one number and at most another
pub record IsMadeOnce (site : SiteName) (low high : ℕ) (pair : Cells) (count : ℕ) : Type 0 where
  pub once : count ≤ 1
  pub maker : 1 ≤ count → (stamp : ℕ) × (pair ≡ Num (pos stamp) ∷ Words site.0 ∷ []) × (low < stamp) × (stamp ≤ high)

-- the pairs that calls make of each group of each row with latest values
abbrev pub AreMadeOnce : Schema → SiteName → ℕ → ℕ → List Call → Type 0
AreMadeOnce schema site low high calls = (table group stamp own : ℕ) (key pair : Cells) → is_convergent schema table ≡ true → form_at schema table group ≡ Some (form.Latest stamp own)
    → IsMadeOnce site low high pair (count_where (has_pair (group_columns_of schema table group) stamp own pair) (made_in schema table key group calls))

-- after every list of events each site has made each pair at most once, with its own name and a stamp from 1 to its last one
abbrev pub PairsAreMadeOnce : Type 0
PairsAreMadeOnce = (schema : Schema) (start : Cluster) (events : List Event) → IsFitStart schema start
    → (site : SiteName) (x : SiteState) → site_of site (run events start).sites ≡ Some x → AreMadeOnce schema x.here.site 0 x.stamps.last (own_calls x.journal)

-- and in all that two masters queued, the changed rows of snapshot sites' transactions among it, one pair of a group of a row
-- stands for one list of values
abbrev pub PairsTellValues : Type 0
PairsTellValues = (schema : Schema) (start : Cluster) (events : List Event) → IsFitStart schema start
    → (one other : SiteName) (x y : SiteState) → site_of one (run events start).sites ≡ Some x → site_of other (run events start).sites ≡ Some y
    → x.here.is_master ≡ true → y.here.is_master ≡ true
    → (table group stamp own : ℕ) (key v w : Cells) → is_convergent schema table ≡ true → form_at schema table group ≡ Some (form.Latest stamp own)
    → Among v (made_in schema table key group (calls_in (queue_of x))) → Among w (made_in schema table key group (calls_in (queue_of y)))
    → pair_in (group_columns_of schema table group) stamp own v ≡ pair_in (group_columns_of schema table group) stamp own w → v ≡ w
