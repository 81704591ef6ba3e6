-- The entries that ready positions of a master lead to: each finishes its position, and those whose transactions share a token
-- stand in order.
use Rattle.std.proofs.Common.{◌≡◌, ℕ, ◌<◌, List, [], ◌∷◌, ◌++◌, reverse, map, true, Some, refl, sym, ap, ◌∙◌, subst, inl, inr}
use Rattle.std.specs.Prelude.{Result, Ok, Err}
use Rattle.std.specs.List.{AllByRecursion}
use mathlib.Core.Logic.{◌⊎◌}
use mathlib.Core.List.{append_assoc}
use Rattle.std.proofs.lemmas.Grind.{reverse_onto}
use Rattle.rep_values.specs.declared.name.SiteName.{SiteName}
use Rattle.rep_calls.specs.declared.call.Txn.{Txn}
use Rattle.txn_effects.specs.Calls.{Effect}
use Rattle.txn_effects.specs.Transactions.{Failure}
use Rattle.site_state.specs.declared.entry.Entry.{Entry}
use Rattle.site_state.specs.declared.entry.Entry.TheVariants.{Local, Done, Error, Executed, Dropped, Refreshed}
use Rattle.site_state.specs.State.{SiteState, arrived_at}
use Rattle.rep_schema.specs.Sites.{is_master_site}
use Rattle.site_state.specs.Streams.{shares}
use Rattle.site_state.specs.Fits.{EntryHas}
use Rattle.site_state.specs.Passes.{effect_here, site_apply}
use Rattle.site_state.proofs.Stepping.{arrived_has}
use Rattle.event_laws.specs.Confluence.{applied_in_turn, AreReadyInTurn, CanPassInAnyOrder}
use Rattle.event_laws.proofs.MasterArrivals.{entry_by, IsReadyAt, ready_at, finished_by-master}
use Rattle.journal_sort.specs.Sorting.{finish_position, IsFinishOf, StandsFirst, AreInOrder}
use Rattle.journal_sort.proofs.Selecting.{AllByRecursion-weaker}
use Rattle.parallel_apply.proofs.InTurn.{Stays, stays_one, stays_then, applied_becomes, applied_finished}
use Rattle.parallel_apply.proofs.Outlasting.{three_ways, off_and_on, there_at_start, from_one, depends_finished}

has_then : (P Q : Txn → Type 0) → ((txn : Txn) → P txn → Q txn) → (e : Entry) → EntryHas P e → EntryHas Q e
has_then P Q then (Local number txn) has = then txn has
has_then P Q then (Done o p onward txn) has = then txn has
has_then P Q then (Error o p call error txn) has = then txn has
has_then P Q then (Executed o p onward txn) has = then txn has
has_then P Q then (Dropped o p) has = tt
has_then P Q then (Refreshed moment) has = tt

-- an entry is that of what was ready at its position at a later site
pub record ComesBehind (origin : SiteName) (x : SiteState) (e : Entry) : Type 0 where
  pub later : SiteState
  pub stays : Stays origin x later
  pub at : IsReadyAt origin (finish_position e) later
  pub carries : EntryHas (λ (txn : Txn). txn ≡ at.arrival.txn) e

-- the entries, the oldest first
pub record AreMade (origin : SiteName) (ps : List ℕ) (x : SiteState) : Type 0 where
  pub entries : List Entry
  pub journal : (applied_in_turn origin ps x).journal ≡ reverse entries ++ x.journal
  pub finishes : AllByRecursion (IsFinishOf origin) entries
  pub positions : map finish_position entries ≡ ps
  pub behind : AllByRecursion (ComesBehind origin x) entries
  pub order : AreInOrder x.schema entries

module _ (origin : SiteName) (start : SiteState) (is : CanPassInAnyOrder origin start) where
  -- the entry of one position
  module _ (p : ℕ) (x : SiteState) (stays : Stays origin start x) (at : IsReadyAt origin p x) where
    abbrev one : Entry
    one = entry_by origin at.arrival (effect_here origin at.arrival x)

    journal_one : (site_apply origin p x).journal ≡ one ∷ x.journal
    journal_one = ap (λ (y : SiteState). y.journal) (applied_becomes origin p x at ∙ finished_by-master origin at.arrival x (ap (λ s. is_master_site s origin) stays.schema ∙ is.master) (effect_here origin at.arrival x))

    by_result : (P : Entry → Type 0) → P (Done origin at.arrival.position 0 at.arrival.txn) → ((failure : Failure) → P (Error origin at.arrival.position failure.call failure.error at.arrival.txn)) → (r : Result Effect Failure) → P (entry_by origin at.arrival r)
    by_result P done error (Ok effect) = done
    by_result P done error (Err failure) = error failure

    finish_one : IsFinishOf origin one
    finish_one = by_result (IsFinishOf origin) refl (λ failure. refl) (effect_here origin at.arrival x)

    position_one : finish_position one ≡ p
    position_one = by_result (λ e. finish_position e ≡ p) (arrived_has origin p x at.arrival at.there) (λ failure. arrived_has origin p x at.arrival at.there) (effect_here origin at.arrival x)

    carries_one : EntryHas (λ (txn : Txn). txn ≡ at.arrival.txn) one
    carries_one = by_result (EntryHas (λ (txn : Txn). txn ≡ at.arrival.txn)) refl (λ failure. refl) (effect_here origin at.arrival x)

    behind_one : ComesBehind origin x one
    behind_one = subst (λ (q : ℕ). (e : Entry) → finish_position e ≡ q → EntryHas (λ (txn : Txn). txn ≡ at.arrival.txn) e → ComesBehind origin x e) refl
        (λ e same carries. record {
          later = x;
          stays = record { schema = refl; senders = refl; finished_stay = λ q on. on };
          at = record { arrival = at.arrival; there = ap (λ (q : ℕ). arrived_at origin q x.senders) same ∙ at.there; unfinished = ap (λ (q : ℕ). Rattle.site_state.specs.Journal.finished origin x.journal q) same ∙ at.unfinished; due = at.due };
          carries = carries;
        }) one position_one carries_one

    -- it stands first of those that come behind it and share a token
    stands_first : (f : Entry) → ComesBehind origin (site_apply origin p x) f → StandsFirst x.schema one f
    stands_first f behind =
        has_then (λ (txn : Txn). txn ≡ at.arrival.txn) (λ (txn : Txn). EntryHas (λ (other : Txn). shares x.schema txn other ≡ true → finish_position one < finish_position f) f)
        (λ txn own. has_then (λ (other : Txn). other ≡ behind.at.arrival.txn) (λ (other : Txn). shares x.schema txn other ≡ true → finish_position one < finish_position f)
        (λ other own_other shared. subst (λ (n : ℕ). n < finish_position f) (sym position_one) (lower (three_ways p (finish_position f)) (rw (stays.schema, own, own_other) at shared))) f behind.carries) one carries_one
      where
        whole : Stays origin x behind.later
        whole = stays_then origin x (site_apply origin p x) behind.later (stays_one origin p x) behind.stays

        there_p : arrived_at origin p start.senders ≡ Some at.arrival
        there_p = there_at_start origin start is p x at.arrival stays at.there

        there_q : arrived_at origin (finish_position f) start.senders ≡ Some behind.at.arrival
        there_q = there_at_start origin start is (finish_position f) behind.later behind.at.arrival (stays_then origin start x behind.later stays whole) behind.at.there

        lower : (s : (p < finish_position f) ⊎ ((finish_position f < p) ⊎ (p ≡ finish_position f))) → shares start.schema at.arrival.txn behind.at.arrival.txn ≡ true → p < finish_position f
        lower (inl less) shared = less
        lower (inr (inl more)) shared =
            let above = is.numbered (finish_position f) p behind.at.arrival at.arrival there_q there_p more shared in
            absurd (off_and_on _ (whole.finished_stay (finish_position f) (depends_finished origin start is p (finish_position f) x (from_one origin start is (finish_position f) behind.at.arrival there_q) at above)) behind.at.unfinished)
        lower (inr (inr same)) shared =
            absurd (off_and_on _ (behind.stays.finished_stay (finish_position f) (subst (λ (q : ℕ). Rattle.site_state.specs.Journal.finished origin (site_apply origin p x).journal q ≡ true) same (applied_finished origin p x at))) behind.at.unfinished)

    with_one : (ps : List ℕ) → AreMade origin ps (site_apply origin p x) → AreMade origin (p ∷ ps) x
    with_one ps rest = record {
      entries = one ∷ rest.entries;
      journal = rest.journal ∙ ap (λ es. reverse rest.entries ++ es) journal_one
          ∙ sym (append_assoc (reverse rest.entries) (one ∷ []) x.journal) ∙ ap (λ es. es ++ x.journal) (sym (reverse_onto rest.entries one []));
      finishes = (finish_one, rest.finishes);
      positions = λ i. position_one i ∷ rest.positions i;
      behind = (
        behind_one,
        AllByRecursion-weaker (ComesBehind origin (site_apply origin p x)) (ComesBehind origin x)
            (λ f b. record { later = b.later; stays = stays_then origin x (site_apply origin p x) b.later (stays_one origin p x) b.stays; at = b.at; carries = b.carries }) rest.entries rest.behind,
      );
      order = (AllByRecursion-weaker (ComesBehind origin (site_apply origin p x)) (StandsFirst x.schema one) stands_first rest.entries rest.behind, subst (λ s. AreInOrder s rest.entries) (stays_one origin p x).schema rest.order);
    }

  pub are_made : (ps : List ℕ) (x : SiteState) → Stays origin start x → AreReadyInTurn origin ps x → AreMade origin ps x
  are_made [] x stays ready = record { entries = []; journal = refl; finishes = tt; positions = refl; behind = tt; order = tt }
  are_made (p ∷ ps) x stays ready =
      with_one p x stays (ready_at origin p x ready.0) ps (are_made ps (site_apply origin p x) (stays_then origin start x (site_apply origin p x) stays (stays_one origin p x)) ready.1)
