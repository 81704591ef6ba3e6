-- What hinders a join is counted over the other sites, is told up to the end of its type, and is looked for in declared order.
use Rattle.std.proofs.Common.{◌≡◌, ℕ, ◌+◌, ◌-◌, ◌^◌, ◌<◌, ◌≤◌, List, [], ◌∷◌, map, drop, length, get_or, Bool, true, false, cond, Some, None, refl, sym, ap, ◌∙◌, arith}
use Rattle.std.specs.Prelude.{◌&&◌, min, nat_lt, filter, sum, sum_by, Option, slice_get}
use Rattle.std.proofs.lemmas.Bool.{ltb-true, ltb-false, lt-ltb, le-ltb}
use Rattle.std.proofs.lemmas.List.Sums.{sum-map, sum_by-cons}
use Rattle.std.proofs.lemmas.Option.{slice_get_read}
use Rattle.rep_lists.proofs.Places.{drop_from_found}
use Rattle.rep_values.specs.declared.name.SiteName.{SiteName}
use Rattle.rep_values.specs.declared.refusal.Refusal.{Refusal}
use Rattle.rep_values.specs.declared.refusal.Refusal.TheVariants as refusal
use Rattle.rep_values.specs.RefusalSteps.{refused, or_then}
use Rattle.rep_schema.specs.declared.schema.SiteEntry.{SiteEntry}
use Rattle.rep_calls.specs.declared.past.PastEntry.{PastEntry}
use Rattle.site_state.specs.State.{SiteState}
use Rattle.site_state.specs.Joining.{unfinished_of, master_errors}
use Rattle.site_events.specs.Cluster.{site_of}
use Rattle.site_events.specs.Quiet.{is_other_master, last_position_to, last_positions, unquiet_at}
use Rattle.world_state.specs.Refusals.{unquiet_told, unquiet_step, quiet_step}
use Rattle.world.specs.Joining.{unfinished_from}

-- ---- the count

module _ (x : SiteState) where
  -- what isn't finished of the other masters is counted site by site
  summed : (sites : List SiteState) → sum_by (unfinished_of x) (last_positions x.here.site sites) ≡ sum_by (unfinished_from x) sites
  summed [] = refl
  summed (y ∷ ys) = go (is_other_master x.here.site y) (summed ys) ∙ sym (sum_by-cons (unfinished_from x) y ys)
    where
      go : (b : Bool) → sum_by (unfinished_of x) (last_positions x.here.site ys) ≡ sum_by (unfinished_from x) ys
          → sum_by (unfinished_of x) (map (last_position_to x.here.site) (cond b (y ∷ filter (is_other_master x.here.site) ys) (filter (is_other_master x.here.site) ys)))
          ≡ cond b (unfinished_of x (last_position_to x.here.site y)) 0 + sum_by (unfinished_from x) ys
      go true later =
          sum_by-cons (unfinished_of x) (last_position_to x.here.site y) (last_positions x.here.site ys) ∙ ap (λ (n : ℕ). unfinished_of x (last_position_to x.here.site y) + n) later
      go false later = let alone : 0 + sum_by (unfinished_from x) ys ≡ sum_by (unfinished_from x) ys = omega arith in later ∙ sym alone

  -- so it is with one of them
  pub counts_from : (other : SiteState) (name : SiteName) (last : PastEntry) (count : ℕ) → name ≡ x.here.site → last ≡ last_position_to name other → is_other_master name other ≡ true → count ≡ unfinished_of x last
      → count ≡ unfinished_from x other
  counts_from other name last count named last_is master counted =
      counted ∙ ap (unfinished_of x) (last_is ∙ ap (λ (n : SiteName). last_position_to n other) named)
      ∙ sym (ap (λ (b : Bool). cond b (unfinished_of x (last_position_to x.here.site other)) 0) (ap (λ (n : SiteName). is_other_master n other) (sym named) ∙ master))

  pub counts_none : (other : SiteState) (name : SiteName) → name ≡ x.here.site → is_other_master name other ≡ false → 0 ≡ unfinished_from x other
  counts_none other name named none =
      sym (ap (λ (b : Bool). cond b (unfinished_of x (last_position_to x.here.site other)) 0) (ap (λ (n : SiteName). is_other_master n other) (sym named) ∙ none))

  -- with the errors it is all that hinders
  pub unquiet_sum : (sites : List SiteState) → unquiet_at sites x ≡ sum_by (unfinished_from x) sites + master_errors x
  unquiet_sum sites = ap (λ (n : ℕ). n + master_errors x) (sum-map (unfinished_of x) (last_positions x.here.site sites) ∙ summed sites)

-- ---- what is told

-- something is told where something hinders
told_hinders : (n : ℕ) → nat_lt 0 (min (2 ^ 64 - 1) n) ≡ nat_lt 0 n
told_hinders n = go (nat_lt 0 n) refl
  where
    go : (b : Bool) → nat_lt 0 n ≡ b → nat_lt 0 (min (2 ^ 64 - 1) n) ≡ b
    go true is = let some : 0 < n = ltb-true 0 n is in lt-ltb 0 (min (2 ^ 64 - 1) n) (omega (arith, some))
    go false is = let none : n ≤ 0 = ltb-false 0 n is in le-ltb 0 (min (2 ^ 64 - 1) n) (omega (arith, none))

-- a site says what is told of it
pub told_step_is : (sites : List SiteState) (x : SiteState) (count : ℕ) → count ≡ unquiet_told sites x
    → refused (x.here.is_master && nat_lt 0 count) (refusal.NotQuiet x.here.site count) ≡ unquiet_step sites (Some x)
told_step_is sites x count told =
    ap (λ (n : ℕ). refused (x.here.is_master && nat_lt 0 n) (refusal.NotQuiet x.here.site n)) told
    ∙ ap (λ (b : Bool). refused (x.here.is_master && b) (refusal.NotQuiet x.here.site (unquiet_told sites x))) (told_hinders (unquiet_at sites x))

-- ---- in declared order

module _ (sites : List SiteState) (es : List SiteEntry) (place : ℕ) (e : SiteEntry) (within : place < length es) (is : e ≡ get_or es place e) where
  -- what the site of one entry says
  abbrev said : Option Refusal
  said = unquiet_step sites (site_of e.name sites)

  there : slice_get es place ≡ Some e
  there = slice_get_read es (length es) place e refl within is

  from_here : quiet_step sites (drop place es) ≡ or_then said (quiet_step sites (drop (place + 1) es))
  from_here = ap (quiet_step sites) (drop_from_found es place e there)

  -- where nothing hinders there, the next ones count
  pub hinders_nothing : said ≡ None → quiet_step sites (drop (place + 1) es) ≡ quiet_step sites (drop place es)
  hinders_nothing none = sym (from_here ∙ ap (λ (o : Option Refusal). or_then o (quiet_step sites (drop (place + 1) es))) none)

  -- where something does, no other counts
  pub hinders : (why : Refusal) → said ≡ Some why → Some why ≡ quiet_step sites (drop place es)
  hinders why is = sym (from_here ∙ ap (λ (o : Option Refusal). or_then o (quiet_step sites (drop (place + 1) es))) is)
