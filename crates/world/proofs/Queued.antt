-- What a site queued for its only destination, and whether that is acknowledged.
use Rattle.std.proofs.Common.{◌≡◌, ℕ, ◌+◌, ◌-◌, ◌==◌, List, [], ◌∷◌, length, map, Bool, true, false, cond, Some, None, refl, sym, ap, subst, ◌∙◌, arith}
use Rattle.std.specs.Prelude.{◌&&◌, not, sum}
use Rattle.std.specs.List.{list_all}
use Rattle.rep_values.specs.declared.name.SiteName.{SiteName}
use Rattle.rep_values.specs.declared.refusal.Refusal.TheVariants as refusal
use Rattle.rep_values.specs.RefusalSteps.{refused}
use Rattle.deferred_queue.specs.Streams.{Mark, last_position, acked_by}
use Rattle.rep_values.specs.SiteNames.{is_same_site}
use Rattle.deferred_queue.proofs.Sites.{is_same_site-refl}
use Rattle.site_state.specs.State.{DestinationState, SiteState}
use Rattle.site_state.specs.Streams.{stream_to}
use Rattle.site_state.specs.Deferrals.{deferred_of, deferred_marks, StandApart}
use Rattle.site_engine.proofs.Sending.{last_is}
use Rattle.site_events.specs.Events.{has_acked_all, is_all_acked}
use Rattle.world_state.specs.Refusals.{waiting_for, waiting_count}

abbrev names : List DestinationState → List SiteName
names ds = map (λ (d : DestinationState). d.site) ds

abbrev marks : List DestinationState → List Mark
marks ds = map (λ (d : DestinationState). record { site = d.site; acked = d.acked }) ds

module _ (x : SiteState) (to : SiteName) where
  -- how long its stream is
  abbrev long : ℕ
  long = length (stream_to to x)

  and_true : (b : Bool) → (b && true) ≡ b
  and_true true = refl
  and_true false = refl

  one_acked : (ds : List DestinationState) → names ds ≡ to ∷ [] → list_all (has_acked_all x) ds ≡ (acked_by to (marks ds) == long)
  one_acked [] is = absurd (cc is)
  one_acked (d ∷ []) is =
      let same : d.site ≡ to = cc is in
      subst (λ (n : SiteName). (has_acked_all x d && true) ≡ (cond (is_same_site d.site n) d.acked 0 == length (stream_to n x))) same (rw (is_same_site-refl d.site) (and_true (has_acked_all x d)))
  one_acked (d ∷ e ∷ ds) is = absurd (cc is)

  one_waits : (ds : List DestinationState) → names ds ≡ to ∷ [] → sum (map (waiting_for x) ds) ≡ long - acked_by to (marks ds)
  one_waits [] is = absurd (cc is)
  one_waits (d ∷ []) is =
      let same : d.site ≡ to = cc is in
      let alone : 0 + waiting_for x d ≡ waiting_for x d = omega arith in
      subst (λ (n : SiteName). 0 + waiting_for x d ≡ length (stream_to n x) - cond (is_same_site d.site n) d.acked 0) same (rw (is_same_site-refl d.site) alone)
  one_waits (d ∷ e ∷ ds) is = absurd (cc is)

  one_apart : (ds : List DestinationState) → names ds ≡ to ∷ [] → StandApart ds
  one_apart [] is = absurd (cc is)
  one_apart (d ∷ []) is = (refl, tt)
  one_apart (d ∷ e ∷ ds) is = absurd (cc is)

  module _ (is : names x.destinations ≡ to ∷ []) where
    last_long : last_position to (deferred_of x) ≡ long
    last_long = last_is to x (one_apart x.destinations is)

    all_acked : is_all_acked x ≡ (acked_by to (deferred_marks x) == last_position to (deferred_of x))
    all_acked = one_acked x.destinations is ∙ ap (λ (n : ℕ). acked_by to (deferred_marks x) == n) (sym last_long)

    waiting : waiting_count x ≡ last_position to (deferred_of x) - acked_by to (deferred_marks x)
    waiting = one_waits x.destinations is ∙ ap (λ (n : ℕ). n - acked_by to (deferred_marks x)) (sym last_long)

    -- why a refresh is refused for it
    pub queue_step_is : refused (not (is_all_acked x)) (refusal.QueueNotEmpty (waiting_count x))
        ≡ refused (not (acked_by to (deferred_marks x) == last_position to (deferred_of x))) (refusal.QueueNotEmpty (last_position to (deferred_of x) - acked_by to (deferred_marks x)))
    queue_step_is = ap (λ (b : Bool). refused (not b) (refusal.QueueNotEmpty (waiting_count x))) all_acked
        ∙ ap (λ (n : ℕ). refused (not (acked_by to (deferred_marks x) == last_position to (deferred_of x))) (refusal.QueueNotEmpty n)) waiting

    module _ (acked last : ℕ) (acked_is : acked ≡ acked_by to (deferred_marks x)) (last_is_so : last ≡ last_position to (deferred_of x)) where
      step_by : refused (not (is_all_acked x)) (refusal.QueueNotEmpty (waiting_count x)) ≡ refused (not (acked == last)) (refusal.QueueNotEmpty (last - acked))
      step_by = queue_step_is ∙ ap (λ (n : ℕ). refused (not (n == last_position to (deferred_of x))) (refusal.QueueNotEmpty (last_position to (deferred_of x) - n))) (sym acked_is)
          ∙ ap (λ (n : ℕ). refused (not (acked == n)) (refusal.QueueNotEmpty (n - acked))) (sym last_is_so)

      -- for nothing where it acknowledged the last one
      pub nothing_waits : (acked == last) ≡ true → None ≡ refused (not (is_all_acked x)) (refusal.QueueNotEmpty (waiting_count x))
      nothing_waits same = sym (step_by ∙ ap (λ (b : Bool). refused (not b) (refusal.QueueNotEmpty (last - acked))) same)

      -- and else for what is behind
      pub some_wait : (acked == last) ≡ false → (count : ℕ) → count ≡ last - acked → Some (refusal.QueueNotEmpty count) ≡ refused (not (is_all_acked x)) (refusal.QueueNotEmpty (waiting_count x))
      some_wait off count is_count = ap (λ (n : ℕ). Some (refusal.QueueNotEmpty n)) is_count ∙ sym (step_by ∙ ap (λ (b : Bool). refused (not b) (refusal.QueueNotEmpty (last - acked))) off)
