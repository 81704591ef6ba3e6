-- The laws speak of the sites with which scripts begin: two masters and a snapshot site as they are made, with a late master
-- that isn't there yet, meet what the laws ask of a start.
use Rattle.std.proofs.Common.{◌≡◌, ◌≢◌, ℕ, zero, suc, ◌<◌, [], ◌∷◌, get_or, Bool, true, false, None, refl, ap, arith}
use Rattle.std.specs.Prelude.{codes, ◌&&◌, ◌||◌}
use Rattle.std.specs.List.{All, AllPairs}
use Rattle.std.proofs.lemmas.List.Elements.{All-from_recursion}
use Rattle.std.proofs.lemmas.List.Kept.{AllPairs-cons}
use Rattle.rep_values.specs.declared.name.SiteName.{SiteName}
use Rattle.rep_schema.specs.declared.schema.Schema.{Schema}
use Rattle.rep_schema.specs.declared.schema.Group.{Group}
use Rattle.rep_schema.specs.Shape.{shadow_name, ShareNone, AreColumns, method_column, method_priority, IsPlaceIn, HasGroupShape, HasTableShape, HasMaster, HasShape}
use Rattle.rep_schema.specs.Tables.{rows_of, IsTable, AreTables}
use Rattle.schema_rules.specs.Rules.{broken_rule}
use Rattle.rep_laws.specs.Commuting.{IsSound}
use Rattle.rep_values.specs.SiteNames.{is_same_site}
use Rattle.deferred_queue.proofs.Sites.{is_same_site-true}
use Rattle.snapshot_query.specs.declared.snapshot.Snapshot.{Snapshot}
use Rattle.site_state.specs.State.{SiteState, opened_of}
use Rattle.site_state.specs.Making.{master_here, new_site}
use Rattle.site_state.proofs.WorkedSites.{a, b, d, s, master, late_master, snapshot_of, additive, row, at_first}
use Rattle.site_events.specs.Cluster.{Cluster, site_of}
use Rattle.event_laws.specs.Starts.{IsStart}
use Rattle.event_laws.specs.Declared.{AreDeclared}
use Rattle.event_laws.specs.Waiting.{AreFirsts, StreamsMeet, AbsentAreClosed, SitesLinkAsDeclared}
use Rattle.event_laws.specs.Fitting.{IsFitStart}
use Rattle.event_laws.proofs.Sites.{found_all}
use Rattle.event_laws.proofs.NewSites.{new_site_is_new}

abbrev schema : Schema
schema = additive (master a ∷ master b ∷ late_master d ∷ snapshot_of s a ∷ [])

abbrev all_rows : Snapshot
all_rows = record { table = 0; query = record { tests = [] }; parent = None; mark = 0; touched = [] }

abbrev site_s : SiteState
site_s = new_site schema (record { site = s; is_master = false; tables = true ∷ [] }) [] (all_rows ∷ []) ((row 1 10 ∷ []) ∷ [])

abbrev start : Cluster
start = record { sites = at_first schema (row 1 10 ∷ []) a ∷ at_first schema (row 1 10 ∷ []) b ∷ site_s ∷ []; sent = []; begun = [] }

-- ---- the schema

first_letter : SiteName → ℕ
first_letter name = get_or name.0 0 0

one_pair : {X : Type 0} (R : X → X → Type 0) (x : X) → AllPairs R (x ∷ [])
one_pair R x i j e before within = absurd (omega (arith, before, within))

no_pair : {X : Type 0} (R : X → X → Type 0) → AllPairs R []
no_pair R i j e before within = absurd (omega (arith, before, within))

apart_sites : AllPairs (λ (x y : SiteName). x ≢ y) (a ∷ b ∷ d ∷ s ∷ [])
unfolding first_letter
apart_sites =
    AllPairs-cons (λ x y. x ≢ y) a (b ∷ d ∷ s ∷ []) (All-from_recursion (λ y. a ≢ y) (b ∷ d ∷ s ∷ [])
    ((λ same. let first : 65 ≡ 66 = ap first_letter same in omega arith), ((λ same. let first : 65 ≡ 68 = ap first_letter same in omega arith), ((λ same. let first : 65 ≡ 83 = ap first_letter same in omega arith), tt))))
    (AllPairs-cons (λ x y. x ≢ y) b (d ∷ s ∷ []) (All-from_recursion (λ y. b ≢ y) (d ∷ s ∷ [])
    ((λ same. let first : 66 ≡ 68 = ap first_letter same in omega arith), ((λ same. let first : 66 ≡ 83 = ap first_letter same in omega arith), tt)))
    (AllPairs-cons (λ x y. x ≢ y) d (s ∷ []) (All-from_recursion (λ y. d ≢ y) (s ∷ []) ((λ same. let first : 68 ≡ 83 = ap first_letter same in omega arith), tt))
    (one_pair (λ x y. x ≢ y) s)))

abbrev group_q : Group
group_q = get_or (get_or schema.tables 0 (record { name = record { 0 = [] }; columns = []; groups = []; key_methods = []; constraints = []; checks = []; convergent = false })).groups 0 (record { name = []; columns = []; methods = [] })

column_q : AreColumns 2 (1 ∷ [])
column_q = record {
  some = omega arith;
  rising = λ k within. absurd (omega (arith, within));
  in_range = All-from_recursion (λ p. p < 2) (1 ∷ []) (omega arith, tt);
}

group_has_shape : HasGroupShape 2 0 group_q
group_has_shape = record {
  columns = column_q;
  methods = omega arith;
  method_columns = All-from_recursion (λ m. IsPlaceIn 2 (method_column m)) group_q.methods (tt, tt);
  method_priorities = All-from_recursion (λ m. IsPlaceIn 0 (method_priority m)) group_q.methods (tt, tt);
}

table_has_shape : All (HasTableShape 0) schema.tables
table_has_shape = All-from_recursion (HasTableShape 0) schema.tables (
  record {
    columns = omega arith;
    column_names = AllPairs-cons (λ x y. x ≢ y) (codes "ID") (codes "Q" ∷ [])
        (All-from_recursion (λ y. codes "ID" ≢ y) (codes "Q" ∷ []) ((λ same. let first : 73 ≡ 81 = ap (λ n. get_or n 0 0) same in omega arith), tt))
        (one_pair (λ x y. x ≢ y) (codes "Q"));
    keys = omega arith;
    key_methods = record { number = omega arith; columns = All-from_recursion _ [] tt };
    groups = All-from_recursion (HasGroupShape 2 0) (group_q ∷ []) (group_has_shape, tt);
    group_names = one_pair (λ x y. x ≢ y) (codes "q");
    shadow_free = All-from_recursion (λ g. g.name ≢ shadow_name) (group_q ∷ []) ((λ same. cc), tt);
    groups_apart = one_pair (λ g h. ShareNone g.columns h.columns) group_q;
    constraints = All-from_recursion _ [] tt;
    constraint_number = omega arith;
    constraint_names = no_pair (λ x y. x ≢ y);
    key_free = All-from_recursion _ [] tt;
    constraints_apart = no_pair (λ c d. ShareNone c.columns d.columns);
    checks = All-from_recursion _ [] tt;
    check_number = omega arith;
    check_names = no_pair (λ x y. x ≢ y);
  },
  tt,
)

schema_has_shape : HasShape schema
schema_has_shape = record {
  masters = omega arith;
  snapshots = omega arith;
  site_names = apart_sites;
  site_masters = All-from_recursion (HasMaster schema.sites) schema.sites (tt, (tt, (tt, ((0, master a, omega arith, refl, (refl, refl)), tt))));
  tables = table_has_shape;
  table_number = omega arith;
  table_names = one_pair (λ x y. x ≢ y) (record { 0 = codes "T" });
  priorities = All-from_recursion _ [] tt;
  priority_names = no_pair (λ x y. x ≢ y);
}

schema_is_sound : IsSound schema
unfolding broken_rule
schema_is_sound = record { shape = schema_has_shape; unbroken = refl }

-- ---- the sites

is_a_start : IsStart schema start
is_a_start = record {
  sites = (
    new_site_is_new schema (master_here schema a) (true ∷ []) [] ((row 1 10 ∷ []) ∷ []),
    (
      new_site_is_new schema (master_here schema b) (true ∷ []) [] ((row 1 10 ∷ []) ∷ []),
      (new_site_is_new schema (record { site = s; is_master = false; tables = true ∷ [] }) [] (all_rows ∷ []) ((row 1 10 ∷ []) ∷ []), tt),
    ),
  );
  sent = refl;
}

are_declared : AreDeclared schema start.sites
are_declared = record {
  shape = schema_has_shape;
  each = (
    record { is_master = refl; senders = refl; destinations = refl },
    (record { is_master = refl; senders = refl; destinations = refl }, (record { is_master = refl; senders = refl; destinations = refl }, tt)),
  );
}

streams_meet : StreamsMeet start.sites
streams_meet site = go (is_same_site a site) refl (is_same_site b site) refl (is_same_site s site) refl
  where
    go : (at_a : Bool) → is_same_site a site ≡ at_a → (at_b : Bool) → is_same_site b site ≡ at_b → (at_s : Bool) → is_same_site s site ≡ at_s → AreFirsts start.sites site (site_of site start.sites)
    go true is_a at_b is_b at_s is_s = let same : a ≡ site = is_same_site-true a site is_a in rw (← same) ((refl, omega arith), (refl, ((refl, omega arith), tt)))
    go false is_a true is_b at_s is_s = let same : b ≡ site = is_same_site-true b site is_b in rw (← same) ((refl, omega arith), (refl, tt))
    go false is_a false is_b true is_s = let same : s ≡ site = is_same_site-true s site is_s in rw (← same) tt
    go false is_a false is_b false is_s = rw (is_a, is_b, is_s) tt

absent_are_closed : AbsentAreClosed schema start.sites
absent_are_closed site absent x found late gone =
    let same : d ≡ absent = is_same_site-true d absent (only (is_same_site a absent) (is_same_site b absent) (is_same_site d absent) (is_same_site s absent) late) in
    rw (← same) (found_all (λ (x : SiteState). opened_of d x ≡ None) site start.sites x (refl, (refl, (refl, tt))) found)
  where
    only : (at_a at_b at_d at_s : Bool) → ((at_a && false) || ((at_b && false) || ((at_d && true) || ((at_s && false) || false)))) ≡ true → at_d ≡ true
    only at_a at_b true at_s is = refl
    only true true false true is = cc
    only true true false false is = cc
    only true false false true is = cc
    only true false false false is = cc
    only false true false true is = cc
    only false true false false is = cc
    only false false false true is = cc
    only false false false false is = cc

are_meshed : SitesLinkAsDeclared schema start.sites
are_meshed = record { declared = are_declared; streams = streams_meet; closed = absent_are_closed }

base_tables : AreTables schema ((row 1 10 ∷ []) ∷ [])
base_tables = record { number = refl; each = table }
  where
    table : (n : ℕ) → n < 1 → IsTable schema n (rows_of ((row 1 10 ∷ []) ∷ []) n)
    table zero there = record {
      rising = (tt, tt);
      fit = (((omega arith, omega arith), ((omega arith, omega arith), tt)), tt);
      apart = (record { unheld = λ constraint below held. absurd (omega (arith, below)) }, tt);
    }
    table (suc n) there = absurd (omega (arith, there))

is_a_fit_start : IsFitStart schema start
is_a_fit_start = record {
  sound = schema_is_sound;
  start = is_a_start;
  sites = (record { base = base_tables; within = tt }, (record { base = base_tables; within = tt }, (record { base = base_tables; within = (omega arith, tt) }, tt)));
}
