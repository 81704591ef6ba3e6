-- Passes in parts, one after the other: as events, what they count, and what they leave as it is.
use Rattle.std.proofs.Common.{◌≡◌, ℕ, zero, suc, ◌+◌, ◌≤◌, List, [], ◌∷◌, ◌++◌, length, map, Bool, true, false, cond, refl, sym, ap, ◌∙◌, subst, arith}
use Rattle.std.specs.Prelude.{◌||◌}
use Rattle.rep_values.specs.declared.name.SiteName.{SiteName}
use Rattle.rep_schema.specs.declared.schema.Schema.{Schema}
use Rattle.txn_effects.specs.Contents.{IsContent}
use Rattle.rep_laws.specs.Commuting.{IsSound}
use Rattle.site_state.specs.declared.answers.PassCount.{PassCount}
use Rattle.site_state.specs.declared.arrival.Arrival.{Arrival}
use Rattle.site_state.specs.State.{SiteState, arrivals}
use Rattle.rep_schema.specs.Sites.{is_master_site}
use Rattle.site_state.specs.Contents.{content_of}
use Rattle.site_state.specs.Steps.{begun}
use Rattle.rep_lists.specs.Counting.{count_where}
use Rattle.site_state.specs.Passes.{site_apply, apply_each, site_pass, pass_answer, is_done, is_error}
use Rattle.site_state.proofs.Stepping.{apply_steps}
use Rattle.site_events.specs.Events as event
use Rattle.event_laws.specs.Confluence.{applied_in_turn, CanPassInAnyOrder}
use Rattle.site_state.specs.Rounds.{has_ready, passed_where_ready, round, rounds, sender_names, arrived_count, site_until_quiet}
use Rattle.event_laws.proofs.RoundsEnd.{pass_goes}
use Rattle.event_laws.proofs.PushCounts.{pass_grows, added_count-then}
use Rattle.site_rounds.specs.Parts.{part_of, parts_done, PartlyApplied, MastersCanPass, Passes}

-- ---- parts of passes are events of their site

-- ---- parts

parts_done-append : (first next : List (SiteName × List ℕ)) (x : SiteState) → parts_done (first ++ next) x ≡ parts_done next (parts_done first x)
parts_done-append [] next x = refl
parts_done-append (part ∷ parts) next x = parts_done-append parts next (part_of part.0 part.1 x)

pub partly_same : (x : SiteState) → PartlyApplied x x
partly_same x = ([], refl)

pub partly_then : (x y z : SiteState) → PartlyApplied x y → PartlyApplied y z → PartlyApplied x z
partly_then x y z first next = (first.0 ++ next.0, next.1 ∙ ap (parts_done next.0) first.1 ∙ sym (parts_done-append first.0 next.0 x))

-- a part of one pass
pub partly_part : (origin : SiteName) (positions : List ℕ) (x y : SiteState) → y ≡ part_of origin positions x → PartlyApplied x y
partly_part origin positions x y is = ((origin, positions) ∷ [], is)

abbrev pub positions_of : List Arrival → List ℕ
positions_of arrived = map (λ (a : Arrival). a.position) arrived

-- arrivals are applied one after the other: their positions in turn
pub apply_each-in_turn : (origin : SiteName) (arrived : List Arrival) (x : SiteState) → apply_each origin arrived x ≡ applied_in_turn origin (positions_of arrived) x
apply_each-in_turn origin [] x = refl
apply_each-in_turn origin (a ∷ arrived) x = apply_each-in_turn origin arrived (site_apply origin a.position x)

partly_pass : (origin : SiteName) (x : SiteState) → PartlyApplied x (site_pass origin x)
partly_pass origin x = partly_part origin (positions_of (arrivals origin x)) x (site_pass origin x) (apply_each-in_turn origin (arrivals origin x) (begun x))

partly_where_ready : (origin : SiteName) (x : SiteState) → PartlyApplied x (passed_where_ready origin x)
partly_where_ready origin x = go (has_ready origin x)
  where
    go : (b : Bool) → PartlyApplied x (cond b (site_pass origin x) x)
    go true = partly_pass origin x
    go false = partly_same x

partly_round : (origins : List SiteName) (x : SiteState) → PartlyApplied x (round origins x)
partly_round [] x = partly_same x
partly_round (origin ∷ origins) x = partly_then x (passed_where_ready origin x) (round origins (passed_where_ready origin x)) (partly_where_ready origin x) (partly_round origins (passed_where_ready origin x))

partly_rounds : (n : ℕ) (origins : List SiteName) (x : SiteState) → PartlyApplied x (rounds n origins x)
partly_rounds zero origins x = partly_same x
partly_rounds (suc n) origins x = partly_then x (round origins x) (rounds n origins (round origins x)) (partly_round origins x) (partly_rounds n origins (round origins x))

-- all passes that a receiver makes
pub partly_until_quiet : (origin : SiteName) (x : SiteState) → PartlyApplied x (site_until_quiet origin x)
partly_until_quiet origin x =
    let y : SiteState = site_pass origin x in
    partly_then x y (site_until_quiet origin x) (partly_pass origin x) (partly_rounds (arrived_count y.senders) (sender_names y.senders) y)

-- ---- counts

pub count_at_most : {A : Type 0} (test : A → Bool) (xs : List A) → count_where test xs ≤ length xs
count_at_most test [] = omega arith
count_at_most test (x ∷ xs) = go (test x) (count_at_most test xs)
  where
    go : (b : Bool) → count_where test xs ≤ length xs → cond b (count_where test xs + 1) (count_where test xs) ≤ suc (length xs)
    go true le = omega (arith, le)
    go false le = omega (arith, le)

-- ---- masters

each_schema : (origin : SiteName) (arrived : List Arrival) (x : SiteState) → (apply_each origin arrived x).schema ≡ x.schema
each_schema origin [] x = refl
each_schema origin (a ∷ arrived) x = each_schema origin arrived (site_apply origin a.position x) ∙ (apply_steps origin a.position x).schema

-- what is ready of masters can be applied in any order after a pass as it could before: schema and arrivals stay, and tables are
-- tables
masters_after : (origin : SiteName) (x : SiteState) → IsContent (site_pass origin x).schema (content_of (site_pass origin x)) → MastersCanPass x → MastersCanPass (site_pass origin x)
masters_after origin x content can sender master = go (can sender (subst (λ (s : Schema). is_master_site s sender ≡ true) schema master))
  where
    schema : (site_pass origin x).schema ≡ x.schema
    schema = each_schema origin (arrivals origin x) (begun x)

    go : CanPassInAnyOrder sender x → CanPassInAnyOrder sender (site_pass origin x)
    go before = record {
      sound = subst IsSound (sym schema) before.sound;
      master = master;
      content = content;
      fits = rw (schema, (pass_goes origin x).senders) before.fits;
      passes = rw (pass_goes origin x).senders before.passes;
      numbered = rw (schema, (pass_goes origin x).senders) before.numbered;
    }

-- ---- passes, and what they count

pub passes_none : (x : SiteState) (count : PassCount) → count.done ≡ 0 → count.errors ≡ 0 → MastersCanPass x → Passes x x count
passes_none x count done errors masters = record { senders = refl; grows = λ test. omega arith; done = omega (arith, done); errors = omega (arith, errors); partly = partly_same x; masters = masters }

passes_pass : (origin : SiteName) (x : SiteState) → IsContent (site_pass origin x).schema (content_of (site_pass origin x)) → MastersCanPass x → Passes x (site_pass origin x) (pass_answer origin x)
passes_pass origin x content can = record {
  senders = (pass_goes origin x).senders;
  grows = λ test. pass_grows test origin x;
  done = refl;
  errors = refl;
  partly = partly_pass origin x;
  masters = masters_after origin x content can;
}

-- a pass that was made
pub passes_made : (origin : SiteName) (x y : SiteState) (count : PassCount) → y ≡ site_pass origin x → count ≡ pass_answer origin x → IsContent y.schema (content_of y) → MastersCanPass x → Passes x y count
passes_made origin x y count is counted content can =
    rw (is, counted) (passes_pass origin x (subst (λ (z : SiteState). IsContent z.schema (content_of z)) is content) can)

module _ (x y z : SiteState) (first more : PassCount) (before : Passes x y first) (after : Passes y z more) where
  pub passes_then : (all : PassCount) → all.done ≡ first.done + more.done → all.errors ≡ first.errors + more.errors → Passes x z all
  passes_then all done errors = record {
    senders = after.senders ∙ before.senders;
    grows = λ test. omega (arith, before.grows test, after.grows test);
    done = omega (arith, done, before.done, after.done, added_count-then is_done x y z (before.grows is_done) (after.grows is_done));
    errors = omega (arith, errors, before.errors, after.errors, added_count-then is_error x y z (before.grows is_error) (after.grows is_error));
    partly = partly_then x y z before.partly after.partly;
    masters = after.masters;
  }
