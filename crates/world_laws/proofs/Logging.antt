-- A master logs each table by the log of which a snapshot of one of its snapshot sites goes. The log is new.
use Rattle.std.proofs.Common.{◌≡◌, ℕ, zero, suc, ◌+◌, ◌<◌, ◌≤◌, ◌==◌, List, [], ◌∷◌, length, map, Bool, true, false, cond, Some, None, refl, sym, ap, ◌∙◌, arith, add-zero, subst}
use Rattle.std.specs.Prelude.{◌&&◌, Option, filter, is_some}
use Rattle.std.specs.List.{range_with_len}
use Rattle.std.proofs.lemmas.Bool.{and_from}
use Rattle.std.proofs.lemmas.Bool.Decides.{nat_tests}
use Rattle.rep_values.specs.declared.name.SiteName.{SiteName}
use Rattle.rep_lists.specs.Rising.{IsRising}
use Rattle.rep_schema.specs.declared.schema.Schema.{Schema}
use Rattle.rep_schema.specs.declared.schema.SiteEntry.{SiteEntry}
use Rattle.rep_schema.specs.Shape.{HasShape}
use Rattle.rep_schema.specs.Named.{is_site}
use Rattle.rep_schema.specs.Sites.{has_table}
use Rattle.deferred_queue.proofs.Sites.{is_same_site-refl}
use Rattle.snapshot_query.specs.declared.parent.Parent.{Parent}
use Rattle.change_logs.specs.LogState.{LogState, new_log, tables_in}
use Rattle.change_logs.specs.Noting.{log_of, keys_in}
use Rattle.site_events.specs.Rules.{IsParentWithin, IsParentLogged}
use Rattle.site_events.specs.Events.{master_of}
use Rattle.event_laws.specs.WaitingRows.{logged_cmp, DoParentsRise}
use Rattle.world_state.specs.declared.declared_snapshot.DeclaredSnapshot.{DeclaredSnapshot}
use Rattle.world_state.specs.Making.{is_snapshot_site_of, needs_log, is_logged, logged_at}
use Rattle.world_laws.proofs.Entries.{any_found_passes, HasEntry, entry_of}

has_table-range : (f : ℕ → Bool) (a n table : ℕ) → table < n → has_table (map f (range_with_len a n)) table ≡ f (a + table)
has_table-range f a zero table below = absurd (omega (arith, below))
has_table-range f a (suc n) zero below = ap f (sym (add-zero a))
has_table-range f a (suc n) (suc table) below = let next : a + 1 + table ≡ a + suc table = omega arith in has_table-range f (a + 1) n table (omega (arith, below)) ∙ ap f next

length-range : (f : ℕ → Bool) (a n : ℕ) → length (map f (range_with_len a n)) ≡ n
length-range f a zero = refl
length-range f a (suc n) = ap suc (length-range f (a + 1) n)

-- of new logs of the numbers that are kept, there is one of each
log_of-new : (keep : ℕ → Bool) (a n table : ℕ) → a ≤ table → table < a + n → keep table ≡ true → is_some (log_of table (map new_log (filter keep (range_with_len a n)))) ≡ true
log_of-new keep a zero table from below kept = absurd (omega (arith, from, below))
log_of-new keep a (suc n) table from below kept = go (keep a) refl (a == table) refl (log_of-new keep (a + 1) n table)
  where
    rest : List LogState
    rest = map new_log (filter keep (range_with_len (a + 1) n))

    same : (a == table) ≡ true → a ≡ table
    same is = grind (arith, nat_tests, is)

    next : (a == table) ≡ false → a + 1 ≤ table
    next is = grind (arith, nat_tests, from, is)

    here : (c : Bool) → (a == table) ≡ c → is_some (cond c (Some (new_log a)) (log_of table rest)) ≡ true → is_some (cond (a == table) (Some (new_log a)) (log_of table rest)) ≡ true
    here c is holds = ap (λ (d : Bool). is_some (cond d (Some (new_log a)) (log_of table rest))) is ∙ holds

    go : (b : Bool) → keep a ≡ b → (c : Bool) → (a == table) ≡ c → (a + 1 ≤ table → table < a + 1 + n → keep table ≡ true → is_some (log_of table rest) ≡ true)
        → is_some (log_of table (map new_log (cond b (a ∷ filter keep (range_with_len (a + 1) n)) (filter keep (range_with_len (a + 1) n))))) ≡ true
    go true is true is_c later = here true is_c refl
    go true is false is_c later = here false is_c (later (next is_c) (omega (arith, below)) kept)
    go false is true is_c later = absurd (cc (is, ap keep (same is_c), kept))
    go false is false is_c later = later (next is_c) (omega (arith, below)) kept

module _ (schema : Schema) (shape : HasShape schema) (snapshots : List DeclaredSnapshot) (site master : SiteName) (of_site : master_of schema site ≡ Some master) (table : ℕ) where
  is_logged_there : needs_log snapshots site table ≡ true → is_logged schema.sites snapshots master table ≡ true
  is_logged_there has = any_found_passes (is_site site) (λ (e : SiteEntry). is_snapshot_site_of master e.master && needs_log snapshots e.name table) schema.sites e.entry e.found
      (and_from (is_snapshot_site_of master e.entry.master) (needs_log snapshots e.entry.name table) own named)
    where
      e : HasEntry schema shape site master
      e = entry_of schema shape site master of_site

      own : is_snapshot_site_of master e.entry.master ≡ true
      own = ap (is_snapshot_site_of master) e.is ∙ is_same_site-refl master

      named : needs_log snapshots e.entry.name table ≡ true
      named = ap (λ (n : SiteName). needs_log snapshots n table) e.named ∙ has

  pub has_log : table < length schema.tables → needs_log snapshots site table ≡ true → is_some (log_of table (map new_log (tables_in (logged_at schema snapshots master)))) ≡ true
  has_log below has = log_of-new (has_table (logged_at schema snapshots master)) 0 (length (logged_at schema snapshots master)) table (omega arith) (omega (arith, within, long)) kept
    where
      within : table < 32
      within = omega (arith, below, shape.table_number)

      long : length (logged_at schema snapshots master) ≡ 32
      long = length-range (is_logged schema.sites snapshots master) 0 32

      kept : has_table (logged_at schema snapshots master) table ≡ true
      kept = let same : 0 + table ≡ table = omega arith in has_table-range (is_logged schema.sites snapshots master) 0 32 table within ∙ ap (is_logged schema.sites snapshots master) same ∙ is_logged_there has

-- ---- the log of the parents

-- the log of the parents is needed
abbrev pub ParentNeedsLog : List DeclaredSnapshot → SiteName → Option Parent → Type 0
ParentNeedsLog snapshots site None = Unit {0}
ParentNeedsLog snapshots site (Some p) = needs_log snapshots site p.table ≡ true

pub has_parent_log : (schema : Schema) → HasShape schema → (snapshots : List DeclaredSnapshot) (site master : SiteName) → master_of schema site ≡ Some master → (parent : Option Parent)
    → IsParentWithin schema parent → ParentNeedsLog snapshots site parent → IsParentLogged (map new_log (tables_in (logged_at schema snapshots master))) parent
has_parent_log schema shape snapshots site master of_site None within needs = tt
has_parent_log schema shape snapshots site master of_site (Some p) within needs = has_log schema shape snapshots site master of_site p.table within needs

no_keys : (table : ℕ) (numbers : List ℕ) → keys_in (log_of table (map new_log numbers)) ≡ []
no_keys table [] = refl
no_keys table (n ∷ numbers) = go (n == table) (no_keys table numbers)
  where
    go : (b : Bool) → keys_in (log_of table (map new_log numbers)) ≡ [] → keys_in (cond b (Some (new_log n)) (log_of table (map new_log numbers))) ≡ []
    go true later = refl
    go false later = later

pub new_parents_rise : (numbers : List ℕ) (parent : Option Parent) → DoParentsRise (map new_log numbers) parent
new_parents_rise numbers None = tt
new_parents_rise numbers (Some p) = subst (IsRising logged_cmp) (sym (no_keys p.table numbers)) tt
