-- Passes at a site of procedures: as parts of them, and what its journal has more then.
use Rattle.std.proofs.Common.{◌≡◌, ℕ, ◌+◌, ◌≤◌, List, [], ◌∷◌, ◌++◌, length, map, drop, Some, None, refl, sym, ap, ◌∙◌, subst, arith, append_assoc}
use Rattle.std.specs.Prelude.{Option}
use Rattle.std.proofs.lemmas.List.{drop_all, length-map}
use Rattle.rep_values.specs.declared.name.SiteName.{SiteName}
use Rattle.site_state.specs.declared.arrival.Arrival.{Arrival}
use Rattle.site_state.specs.declared.entry.Entry.{Entry}
use Rattle.site_state.specs.State.{SenderState, arrivals}
use Rattle.site_state.proofs.Growing.{IsFront, front_none}
use Rattle.site_state.proofs.Stepping.{with_entry}
use Rattle.proc_state.specs.State.{ProcState, as_site}
use Rattle.proc_state.specs.Passes.{proc_apply, apply_each, proc_pass}
use Rattle.proc_state.proofs.Ordering.{apply_journals, pass_senders}
use Rattle.site_state.specs.Rounds.{sender_names}
use Rattle.world_state.specs.CallPushes.{proc_passes, proc_until_quiet}
use Rattle.world.specs.Calling.{calls_applied, proc_parts}
use Rattle.world_calls.specs.Applying.{PartlyPassed}

-- ---- parts of passes

pub partly_same : (x : ProcState) → PartlyPassed x x
partly_same x = ([], refl)

proc_parts-append : (first next : List (SiteName × List ℕ)) (x : ProcState) → proc_parts (first ++ next) x ≡ proc_parts next (proc_parts first x)
proc_parts-append [] next x = refl
proc_parts-append (part ∷ parts) next x = proc_parts-append parts next (calls_applied part.0 part.1 x)

pub partly_then : (x y z : ProcState) → PartlyPassed x y → PartlyPassed y z → PartlyPassed x z
partly_then x y z first next = (first.0 ++ next.0, next.1 ∙ ap (λ (v : ProcState). proc_parts next.0 v) first.1 ∙ sym (proc_parts-append first.0 next.0 x))

abbrev positions_in : List Arrival → List ℕ
positions_in arrived = map (λ (a : Arrival). a.position) arrived

apply_each-applied : (origin : SiteName) (arrived : List Arrival) (x : ProcState) → apply_each origin arrived x ≡ calls_applied origin (positions_in arrived) x
apply_each-applied origin [] x = refl
apply_each-applied origin (a ∷ arrived) x = apply_each-applied origin arrived (proc_apply origin a.position x)

-- some of a pass
pub partly_each : (origin : SiteName) (arrived : List Arrival) (x y : ProcState) → y ≡ apply_each origin arrived x → PartlyPassed x y
partly_each origin arrived x y is = ((origin, positions_in arrived) ∷ [], is ∙ apply_each-applied origin arrived x)

-- all of it
pub partly_pass : (origin : SiteName) (x y : ProcState) → y ≡ proc_pass origin x → PartlyPassed x y
partly_pass origin x y is = partly_each origin (arrivals origin (as_site x)) x y is

-- a pass leaves what arrived
pub proc_pass-senders : (origin : SiteName) (x : ProcState) → (proc_pass origin x).senders ≡ x.senders
proc_pass-senders origin x = pass_senders origin (arrivals origin (as_site x)) x

-- ---- one sender after the other

-- the pass for the sender that pushed is made, and those for the senders before a place
pub record PassesSoFar (origin : SiteName) (x : ProcState) (place : ℕ) (y : ProcState) : Type 0 where
  pub left : proc_passes (drop place (sender_names x.senders)) y ≡ proc_until_quiet origin x
  pub senders : y.senders ≡ x.senders
  pub partly : PartlyPassed x y

module _ (origin : SiteName) (x : ProcState) where
  pub passes_so_far_first : (y : ProcState) → y ≡ proc_pass origin x → PassesSoFar origin x 0 y
  passes_so_far_first y is = record {
    left = ap (λ (v : ProcState). proc_passes (sender_names x.senders) v) is;
    senders = ap (λ (v : ProcState). v.senders) is ∙ proc_pass-senders origin x;
    partly = partly_pass origin x y is;
  }

  -- the next one has its turn
  pub passes_so_far_more : (place : ℕ) (y z : ProcState) (next : SiteName) → drop place (sender_names y.senders) ≡ next ∷ drop (place + 1) (sender_names y.senders) → z ≡ proc_pass next y
      → PassesSoFar origin x place y → PassesSoFar origin x (place + 1) z
  passes_so_far_more place y z next there is so_far = record {
    left = ap (λ (v : ProcState). proc_passes (drop (place + 1) (sender_names x.senders)) v) is ∙ ap (λ (names : List SiteName). proc_passes names y) (sym turn) ∙ so_far.left;
    senders = ap (λ (v : ProcState). v.senders) is ∙ proc_pass-senders next y ∙ so_far.senders;
    partly = partly_then x y z so_far.partly (partly_pass next y z is);
  }
    where
      turn : drop place (sender_names x.senders) ≡ next ∷ drop (place + 1) (sender_names x.senders)
      turn = subst (λ (ss : List SenderState). drop place (sender_names ss) ≡ next ∷ drop (place + 1) (sender_names ss)) so_far.senders there

  -- each had it
  pub passes_so_far_end : (place : ℕ) (y : ProcState) → length x.senders ≤ place → PassesSoFar origin x place y → y ≡ proc_until_quiet origin x
  passes_so_far_end place y past so_far =
      ap (λ (names : List SiteName). proc_passes names y) (sym (drop_all place (sender_names x.senders) (omega (arith, past, length-map x.senders (λ (s : SenderState). s.origin))))) ∙ so_far.left

-- ---- journals

-- a journal has more in front
abbrev pub JournalGrows : ProcState → ProcState → Type 0
JournalGrows x y = IsFront y.journal x.journal

grows_then : (x y z : ProcState) → JournalGrows x y → JournalGrows y z → JournalGrows x z
grows_then x y z first next = record { front = next.front ++ first.front; is = next.is ∙ ap (λ (es : List Entry). next.front ++ es) first.is ∙ sym (append_assoc next.front first.front x.journal) }

apply_grows : (origin : SiteName) (position : ℕ) (x : ProcState) → JournalGrows x (proc_apply origin position x)
apply_grows origin position x = let journals = apply_journals origin position x in by journals.entry journals.journal
  where
    by : (e : Option Entry) → (proc_apply origin position x).journal ≡ with_entry e x.journal → JournalGrows x (proc_apply origin position x)
    by None is = record { front = []; is = is }
    by (Some e) is = record { front = e ∷ []; is = is }

each_grows : (origin : SiteName) (arrived : List Arrival) (x : ProcState) → JournalGrows x (apply_each origin arrived x)
each_grows origin [] x = front_none x.journal
each_grows origin (a ∷ arrived) x =
    grows_then x (proc_apply origin a.position x) (apply_each origin arrived (proc_apply origin a.position x)) (apply_grows origin a.position x) (each_grows origin arrived (proc_apply origin a.position x))

passes_grow : (origins : List SiteName) (x : ProcState) → JournalGrows x (proc_passes origins x)
passes_grow [] x = front_none x.journal
passes_grow (origin ∷ origins) x =
    grows_then x (proc_pass origin x) (proc_passes origins (proc_pass origin x)) (each_grows origin (arrivals origin (as_site x)) x) (passes_grow origins (proc_pass origin x))

-- once a site has applied what came its journal has more in front
pub passes_so_far_grow : (origin : SiteName) (x : ProcState) → JournalGrows x (proc_until_quiet origin x)
passes_so_far_grow origin x = passes_grow (origin ∷ sender_names x.senders) x
