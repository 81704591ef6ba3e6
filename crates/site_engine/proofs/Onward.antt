-- What is sent onward is what the site's definition says.
use Rattle.std.proofs.Common.{◌≡◌, ℕ, ◌+◌, ◌≤◌, ◌==◌, List, [], ◌∷◌, length, map, Bool, true, false, cond, not, Some, None, refl, ap, arith}
use Rattle.std.specs.Prelude.{◌&&◌, Option, is_some}
use Rattle.std.specs.List.{list_any, AllByRecursion}
use Rattle.std.proofs.lemmas.Bool.Decides.{nat_tests}
use Rattle.rep_values.specs.declared.name.SiteName.{SiteName}
use Rattle.rep_schema.specs.declared.schema.Schema.{Schema}
use Rattle.rep_schema.specs.declared.change.Change.{Change}
use Rattle.rep_schema.specs.Tables.{Rows}
use Rattle.rep_schema.specs.Putting.{after_changes}
use Rattle.rep_calls.specs.declared.call.Txn.{Txn}
use Rattle.rep_calls.specs.declared.past.PastEntry.{PastEntry}
use Rattle.conflict_detect.specs.ChangeCalls.{call_of}
use Rattle.site_state.specs.State.{SiteState}
use Rattle.rep_schema.specs.Sites.{is_master_site}
use Rattle.site_state.specs.Contents.{txn_of}
use Rattle.site_state.specs.Streams.{with_one, went_onward, count_of}
use Rattle.site_state.specs.Pasts.{past_of, pasts_of}
use Rattle.site_state.specs.Packets.{past_in}
use Rattle.site_state.specs.Steps.{is_empty, is_open, onward_number}
use Rattle.site_state.proofs.FittingSites.{one_has}
use Rattle.site_engine.specs.SiteInvariant.{IsSized}
use Rattle.site_engine.specs.Applying.{goes_on, onward_of, sends_on, onward_past}

-- the order of the tests doesn't matter
tests : {X : Type 0} (p : X) (m k a e : Bool) → (not e && is_some (cond (m && not k && a) (Some p) None)) ≡ (m && not k && not e && a)
tests p true true true true = refl
tests p true true true false = refl
tests p true true false true = refl
tests p true true false false = refl
tests p true false true true = refl
tests p true false true false = refl
tests p true false false true = refl
tests p true false false false = refl
tests p false k a true = refl
tests p false k a false = refl

module _ (origin : SiteName) (x : SiteState) (past : Option (List PastEntry)) (past_is : past ≡ onward_past origin x) (count : ℕ) (count_is : count ≡ count_of x) where
  -- the number is the definition's
  pub onward_is : (changes : List Change) → onward_of past changes count ≡ onward_number origin changes x
  onward_is changes =
      rw (past_is, count_is)
      (ap (λ (b : Bool). cond b (count_of x + 1) 0) (tests (past_of x) x.here.is_master (is_master_site x.schema origin) (list_any is_open x.destinations) (is_empty changes)))

  went : (m k a e : Bool) → (x.here.is_master ≡ m) → (m && not (cond (not e && is_some (cond (m && not k && a) (Some (past_of x)) None)) (count + 1) 0 == 0)) ≡ (not e && is_some (cond (m && not k && a) (Some (past_of x)) None))
  went true true true true is = refl
  went true true true false is = refl
  went true true false true is = refl
  went true true false false is = refl
  went true false true true is = refl
  went true false true false is = grind (arith, nat_tests)
  went true false false true is = refl
  went true false false false is = refl
  went false k a true is = refl
  went false k a false is = refl

  -- and it went onward just where it goes onward
  pub went_is : (changes : List Change) → went_onward x.here (onward_of past changes count) ≡ goes_on past changes
  went_is changes = rw past_is (went x.here.is_master (is_master_site x.schema origin) (list_any is_open x.destinations) (is_empty changes) refl)

  -- with what the site had seen
  pub pasts_with : (changes : List Change) → with_one (goes_on past changes) (past_in past) (pasts_of x) ≡ with_one (goes_on past changes) (past_of x) (pasts_of x)
  pasts_with changes = rw past_is (go (sends_on origin x) (not (is_empty changes)))
    where
      go : (b c : Bool) → with_one (c && is_some (cond b (Some (past_of x)) None)) (past_in (cond b (Some (past_of x)) None)) (pasts_of x) ≡ with_one (c && is_some (cond b (Some (past_of x)) None)) (past_of x) (pasts_of x)
      go true c = refl
      go false true = refl
      go false false = refl

-- a transaction of 1 to 1,000 changed rows is sized where there are some
pub sized_changes : (schema : Schema) (past : Option (List PastEntry)) (changes : List Change) (txns : List Txn) → length changes ≤ 1000 → AllByRecursion IsSized txns → AllByRecursion IsSized (with_one (goes_on past changes) (txn_of schema changes) txns)
sized_changes schema past [] txns few sized = sized
sized_changes schema past (c ∷ cs) txns few sized = one_has IsSized (is_some past) (txn_of schema (c ∷ cs)) txns (record { some = omega arith; most = omega (arith, few, long (c ∷ cs)) }) sized
  where
    long : (changes : List Change) → length (map (call_of schema) changes) ≡ length changes
    long [] = refl
    long (d ∷ ds) = ap ℕ.suc (long ds)

-- where no row changed the rows are as before
pub nothing_made : (schema : Schema) (changes : List Change) (rows : List Rows) → is_empty changes ≡ true → after_changes schema changes rows ≡ rows
nothing_made schema [] rows none = refl
nothing_made schema (c ∷ cs) rows none = absurd (cc none)
