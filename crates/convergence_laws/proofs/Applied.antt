-- Which positions of a sender a site has applied: those that it finished well, or executed.
use Rattle.std.proofs.Common.{◌≡◌, ◌≢◌, ℕ, List, [], ◌∷◌, Bool, true, false, cond, Some, None, refl, sym, ap, ◌∙◌}
use Rattle.std.specs.Prelude.{◌||◌, Option}
use Rattle.std.specs.List.{list_any}
use mathlib.Core.Bool.{true≢false}
use Rattle.rep_values.specs.declared.name.SiteName.{SiteName}
use Rattle.rep_schema.specs.declared.schema.Schema.{Schema}
use Rattle.error_queue.specs.declared.entry.ErrorEntry.{ErrorEntry}
use Rattle.site_state.specs.declared.entry.Entry.{Entry}
use Rattle.site_state.specs.declared.entry.Entry.TheVariants.{Local, Done, Error, Executed, Dropped, Refreshed}
use Rattle.site_state.specs.State.{SiteState}
use Rattle.rep_schema.specs.Sites.{is_master_site}
use Rattle.site_state.specs.Journal.{is_position, finished, error_at}
use Rattle.site_state.proofs.Stepping.{MayFollow, is_position-true}
use Rattle.convergence_laws.specs.QuietAgreement.{drops_of_master}

-- an entry applies a position
abbrev pub applies : SiteName → ℕ → Entry → Bool
applies origin position (Local number txn) = false
applies origin position (Done o p onward txn) = is_position origin position o p
applies origin position (Error o p call error txn) = false
applies origin position (Executed o p onward txn) = is_position origin position o p
applies origin position (Dropped o p) = false
applies origin position (Refreshed moment) = false

abbrev pub is_applied : SiteName → List Entry → ℕ → Bool
is_applied origin journal position = list_any (applies origin position) journal

-- what is applied is finished; what stands as an error isn't applied
pub record IsShaped (journal : List Entry) : Type 0 where
  pub finished_too : (origin : SiteName) (position : ℕ) → is_applied origin journal position ≡ true → finished origin journal position ≡ true
  pub open_not : (origin : SiteName) (position : ℕ) → error_at origin position journal ≢ None → is_applied origin journal position ≡ false

-- an error that stands is of a finished position
pub error_finished : (origin : SiteName) (position : ℕ) (journal : List Entry) → error_at origin position journal ≢ None → finished origin journal position ≡ true
error_finished origin position [] stands = absurd (stands refl)
error_finished origin position (Local number txn ∷ es) stands = error_finished origin position es stands
error_finished origin position (Done o p onward txn ∷ es) stands = go (is_position origin position o p) (error_finished origin position es stands)
  where
    go : (b : Bool) → finished origin es position ≡ true → (b || finished origin es position) ≡ true
    go true later = refl
    go false later = later
error_finished origin position (Error o p call error txn ∷ es) stands = go (is_position origin position o p) stands (error_finished origin position es)
  where
    go : (b : Bool) → cond b (Some (record { origin = o; position = p; call = call; error = error; txn = txn })) (error_at origin position es) ≢ None → (error_at origin position es ≢ None → finished origin es position ≡ true) → (b || finished origin es position) ≡ true
    go true stands later = refl
    go false stands later = later stands
error_finished origin position (Executed o p onward txn ∷ es) stands = go (is_position origin position o p) stands (error_finished origin position es)
  where
    go : (b : Bool) → cond b None (error_at origin position es) ≢ None → (error_at origin position es ≢ None → finished origin es position ≡ true) → finished origin es position ≡ true
    go true stands later = absurd (stands refl)
    go false stands later = later stands
error_finished origin position (Dropped o p ∷ es) stands = go (is_position origin position o p) stands (error_finished origin position es)
  where
    go : (b : Bool) → cond b None (error_at origin position es) ≢ None → (error_at origin position es ≢ None → finished origin es position ≡ true) → finished origin es position ≡ true
    go true stands later = absurd (stands refl)
    go false stands later = later stands
error_finished origin position (Refreshed moment ∷ es) stands = error_finished origin position es stands

not_applied : (journal : List Entry) → IsShaped journal → (origin : SiteName) (position : ℕ) → finished origin journal position ≡ false → is_applied origin journal position ≡ false
not_applied journal shaped origin position none = go (is_applied origin journal position) refl
  where
    go : (b : Bool) → is_applied origin journal position ≡ b → b ≡ false
    go false e = refl
    go true e = absurd (true≢false (sym (shaped.finished_too origin position e) ∙ none))

-- of a position that may be journalled next nothing is applied yet
pub taken_not_applied : (x : SiteState) → IsShaped x.journal → (origin o : SiteName) (position p : ℕ) → finished o x.journal p ≡ false → is_position origin position o p ≡ true → is_applied origin x.journal position ≡ false
taken_not_applied x shaped origin o position p none is = let same = is_position-true origin o position p is in not_applied x.journal shaped origin position (rw (← same.0, ← same.1) none)

pub none_shaped : IsShaped []
none_shaped = record { finished_too = λ origin position e. absurd (true≢false (sym e)); open_not = λ origin position stands. absurd (stands refl) }

pub shaped_more : (x : SiteState) (e : Entry) → MayFollow x e → IsShaped x.journal → IsShaped (e ∷ x.journal)
shaped_more x (Local number txn) follows shaped = record { finished_too = shaped.finished_too; open_not = shaped.open_not }
shaped_more x (Done o p onward txn) follows shaped = record {
  finished_too = λ origin position e. one (is_position origin position o p) (is_applied origin x.journal position) (finished origin x.journal position) (shaped.finished_too origin position) e;
  open_not = λ origin position stands. go origin position (is_position origin position o p) refl stands;
}
  where
    one : (b c d : Bool) → (c ≡ true → d ≡ true) → (b || c) ≡ true → (b || d) ≡ true
    one true c d later e = refl
    one false c d later e = later e

    go : (origin : SiteName) (position : ℕ) (b : Bool) → is_position origin position o p ≡ b → error_at origin position x.journal ≢ None → (b || is_applied origin x.journal position) ≡ false
    go origin position true is stands =
        let same = is_position-true origin o position p is in
        absurd (true≢false (sym (error_finished origin position x.journal stands) ∙ rw (← same.0, ← same.1) follows.unfinished))
    go origin position false is stands = shaped.open_not origin position stands
shaped_more x (Error o p call error txn) follows shaped = record {
  finished_too = λ origin position e. one (is_position origin position o p) (finished origin x.journal position) (shaped.finished_too origin position e);
  open_not = λ origin position stands. go origin position (is_position origin position o p) refl stands;
}
  where
    one : (b d : Bool) → d ≡ true → (b || d) ≡ true
    one true d later = refl
    one false d later = later

    go : (origin : SiteName) (position : ℕ) (b : Bool) → is_position origin position o p ≡ b → cond b (Some (record { origin = o; position = p; call = call; error = error; txn = txn })) (error_at origin position x.journal) ≢ None
        → is_applied origin x.journal position ≡ false
    go origin position true is stands = taken_not_applied x shaped origin o position p follows.unfinished is
    go origin position false is stands = shaped.open_not origin position stands
shaped_more x (Executed o p onward txn) follows shaped = record {
  finished_too = λ origin position e. by origin position (is_position origin position o p) refl e;
  open_not = λ origin position stands. go origin position (is_position origin position o p) stands;
}
  where
    by : (origin : SiteName) (position : ℕ) (b : Bool) → is_position origin position o p ≡ b → (b || is_applied origin x.journal position) ≡ true → finished origin x.journal position ≡ true
    by origin position true is e =
        let same = is_position-true origin o position p is in
        rw (← same.0, ← same.1) (error_finished o p x.journal follows)
    by origin position false is e = shaped.finished_too origin position e

    go : (origin : SiteName) (position : ℕ) (b : Bool) → cond b None (error_at origin position x.journal) ≢ None → (b || is_applied origin x.journal position) ≡ false
    go origin position true stands = absurd (stands refl)
    go origin position false stands = shaped.open_not origin position stands
shaped_more x (Dropped o p) follows shaped = record {
  finished_too = shaped.finished_too;
  open_not = λ origin position stands. go origin position (is_position origin position o p) stands;
}
  where
    go : (origin : SiteName) (position : ℕ) (b : Bool) → cond b None (error_at origin position x.journal) ≢ None → is_applied origin x.journal position ≡ false
    go origin position true stands = absurd (stands refl)
    go origin position false stands = shaped.open_not origin position stands
shaped_more x (Refreshed moment) follows shaped = record { finished_too = shaped.finished_too; open_not = shaped.open_not }

-- an error that is settled doesn't stand
off : (b : Bool) (o : Option ErrorEntry) → o ≡ None → cond b None o ≡ None
off true o none = refl
off false o none = none

-- a position is finished, and no error stands there
pub record FinishedWithoutError (origin : SiteName) (position : ℕ) (journal : List Entry) : Type 0 where
  pub done : finished origin journal position ≡ true
  pub none : error_at origin position journal ≡ None

-- it remains so
pub without_error_more : (x : SiteState) (e : Entry) → MayFollow x e → (origin : SiteName) (position : ℕ) → FinishedWithoutError origin position x.journal → FinishedWithoutError origin position (e ∷ x.journal)
without_error_more x (Local number txn) follows origin position is = record { done = is.done; none = is.none }
without_error_more x (Done o p onward txn) follows origin position is = record { done = either (is_position origin position o p) (finished origin x.journal position) is.done; none = is.none }
  where
    either : (b c : Bool) → c ≡ true → (b || c) ≡ true
    either true c e = refl
    either false c e = e
without_error_more x (Error o p call error txn) follows origin position is = go (is_position origin position o p) refl
  where
    go : (b : Bool) → is_position origin position o p ≡ b → FinishedWithoutError origin position (Error o p call error txn ∷ x.journal)
    go true at =
        let same = is_position-true origin o position p at in
        absurd (true≢false (sym is.done ∙ rw (← same.0, ← same.1) follows.unfinished))
    go false at = record { done = rw at is.done; none = rw at is.none }
without_error_more x (Executed o p onward txn) follows origin position is = record { done = is.done; none = off (is_position origin position o p) (error_at origin position x.journal) is.none }
without_error_more x (Dropped o p) follows origin position is = record { done = is.done; none = off (is_position origin position o p) (error_at origin position x.journal) is.none }
without_error_more x (Refreshed moment) follows origin position is = record { done = is.done; none = is.none }

-- what is settled is applied, and so it remains where a master's error isn't dropped
pub applied_more : (schema : Schema) (e : Entry) (journal : List Entry) → drops_of_master schema e ≡ false → (origin : SiteName) (position : ℕ) → is_master_site schema origin ≡ true
    → (FinishedWithoutError origin position journal → is_applied origin journal position ≡ true) → FinishedWithoutError origin position (e ∷ journal) → is_applied origin (e ∷ journal) position ≡ true
applied_more schema (Local number txn) journal kept origin position named before is = before (record { done = is.done; none = is.none })
applied_more schema (Done o p onward txn) journal kept origin position named before is = go (is_position origin position o p) is.done
  where
    go : (b : Bool) → (b || finished origin journal position) ≡ true → (b || is_applied origin journal position) ≡ true
    go true done = refl
    go false done = before (record { done = done; none = is.none })
applied_more schema (Error o p call error txn) journal kept origin position named before is = go (is_position origin position o p) is.done is.none
  where
    go : (b : Bool) → (b || finished origin journal position) ≡ true → cond b (Some (record { origin = o; position = p; call = call; error = error; txn = txn })) (error_at origin position journal) ≡ None
        → is_applied origin journal position ≡ true
    go true done none = cc
    go false done none = before (record { done = done; none = none })
applied_more schema (Executed o p onward txn) journal kept origin position named before is = go (is_position origin position o p) is.none
  where
    go : (b : Bool) → cond b None (error_at origin position journal) ≡ None → (b || is_applied origin journal position) ≡ true
    go true none = refl
    go false none = before (record { done = is.done; none = none })
applied_more schema (Dropped o p) journal kept origin position named before is = go (is_position origin position o p) refl is.none
  where
    go : (b : Bool) → is_position origin position o p ≡ b → cond b None (error_at origin position journal) ≡ None → is_applied origin journal position ≡ true
    go true at none = absurd (true≢false (sym named ∙ ap (is_master_site schema) (sym (is_position-true origin o position p at).0) ∙ kept))
    go false at none = before (record { done = is.done; none = none })
applied_more schema (Refreshed moment) journal kept origin position named before is = before (record { done = is.done; none = is.none })
