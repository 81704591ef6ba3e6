-- The newest entry of a journal, and the turn of which it tells.
use Rattle.std.proofs.Common.{◌≡◌, ℕ, ◌-◌, List, ◌∷◌, length, reverse, get_or, true, Some, refl, sym, ap, ◌∙◌, arith}
use Rattle.std.specs.Prelude.{Option, slice_get}
use Rattle.std.proofs.lemmas.List.{get_or-reverse, length-reverse}
use Rattle.std.proofs.lemmas.Option.{slice_get-get_or}
use Rattle.rep_values.specs.declared.name.SiteName.{SiteName}
use Rattle.site_state.specs.declared.entry.Entry.{Entry}
use Rattle.site_state.specs.declared.entry.Entry.TheVariants.{Local, Done, Error, Executed, Dropped, Refreshed}
use Rattle.site_state.specs.State.{SiteState}
use Rattle.site_state.specs.Ready.{is_ready}
use Rattle.site_state.specs.Passes.{site_apply}
use Rattle.live_laws.specs.declared.turn.LiveTurn.{LiveTurn}
use Rattle.live_laws.specs.Turns.{applied_turn}
use Rattle.live_laws.proofs.MadeTurns.{entry_turn, NewestTells, newest_tells}
use Rattle.live_streams.specs.Newest.{turn_of}

-- the newest entry stands last, where the oldest stands first
pub newest_at : {X : Type 0} (e : X) (es : List X) → slice_get (reverse (e ∷ es)) (length es) ≡ Some e
newest_at e es =
    slice_get-get_or (reverse (e ∷ es)) (length es) e (omega (arith, length-reverse (e ∷ es)))
    ∙ ap Some (get_or-reverse (e ∷ es) (length es) e (omega arith) ∙ ap (λ (k : ℕ). get_or (e ∷ es) k e) first)
  where
    first : length (e ∷ es) - 1 - length es ≡ 0
    first = omega arith

entry_turn-turn_of : (e : Entry) → entry_turn e ≡ turn_of e
entry_turn-turn_of (Local number txn) = refl
entry_turn-turn_of (Done origin position onward txn) = refl
entry_turn-turn_of (Error origin position call error txn) = refl
entry_turn-turn_of (Executed origin position onward txn) = refl
entry_turn-turn_of (Dropped origin position) = refl
entry_turn-turn_of (Refreshed moment) = refl

-- once a position is applied, what the newest entry tells is its turn
pub newest_is_its_turn : (origin : SiteName) (position : ℕ) (x y : SiteState) (found : Option LiveTurn) → is_ready origin position x ≡ true → y ≡ site_apply origin position x
    → ((newest : Entry) (older : List Entry) → y.journal ≡ newest ∷ older → found ≡ turn_of newest) → found ≡ Some (applied_turn origin position x)
newest_is_its_turn origin position x y found ready applied tells =
    tells told.newest x.journal (ap (λ (z : SiteState). z.journal) applied ∙ told.journal) ∙ sym (entry_turn-turn_of told.newest) ∙ told.tells
  where
    told : NewestTells origin position x
    told = newest_tells origin position x ready
