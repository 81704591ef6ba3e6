-- Entries without an error, by which none stands.
use Rattle.std.proofs.Common.{◌≡◌, ℕ, ◌+◌, ◌-◌, List, [], ◌∷◌, length, take, Bool, true, false, cond, Option, None, refl, ap, ◌∙◌, arith}
use Rattle.std.specs.Prelude.{filter_map, flat_map}
use Rattle.rep_values.specs.declared.name.SiteName.{SiteName}
use Rattle.error_queue.specs.declared.entry.ErrorEntry.{ErrorEntry}
use Rattle.site_state.specs.declared.arrival.Arrival.{Arrival}
use Rattle.site_state.specs.declared.entry.Entry.{Entry}
use Rattle.site_state.specs.declared.entry.Entry.TheVariants.{Local, Done, Error, Executed, Dropped, Refreshed}
use Rattle.site_state.specs.State.{SenderState, SiteState}
use Rattle.site_state.specs.Journal.{is_position, error_at}
use Rattle.site_state.specs.Passes.{is_error, added_count}
use Rattle.rep_lists.specs.Counting.{count_where}
use Rattle.site_state.specs.Errors.{errors_from}
use Rattle.site_rounds.proofs.Growing.{Grows, take-front, count_where-append}

either_none : (b : Bool) (o : Option ErrorEntry) → o ≡ None → cond b None o ≡ None
either_none true o none = refl
either_none false o none = none

-- they have none of any position
error_at-none : (origin : SiteName) (position : ℕ) (es : List Entry) → count_where is_error es ≡ 0 → error_at origin position es ≡ None
error_at-none origin position [] none = refl
error_at-none origin position (Local number txn ∷ es) none = error_at-none origin position es none
error_at-none origin position (Done o p onward txn ∷ es) none = error_at-none origin position es none
error_at-none origin position (Error o p call error txn ∷ es) none = absurd (omega (arith, none))
error_at-none origin position (Executed o p onward txn ∷ es) none = either_none (is_position origin position o p) (error_at origin position es) (error_at-none origin position es none)
error_at-none origin position (Dropped o p ∷ es) none = either_none (is_position origin position o p) (error_at origin position es) (error_at-none origin position es none)
error_at-none origin position (Refreshed moment ∷ es) none = error_at-none origin position es none

arrived-none : (es : List Entry) (origin : SiteName) (arrived : List Arrival) → count_where is_error es ≡ 0 → filter_map (λ (a : Arrival). error_at origin a.position es) arrived ≡ []
arrived-none es origin [] none = refl
arrived-none es origin (a ∷ arrived) none = rw (error_at-none origin a.position es none) (arrived-none es origin arrived none)

-- nor of any sender
errors_from-none : (es : List Entry) (senders : List SenderState) → count_where is_error es ≡ 0 → flat_map (errors_from es) senders ≡ []
errors_from-none es [] none = refl
errors_from-none es (s ∷ senders) none = rw (arrived-none es s.origin s.arrived none) (errors_from-none es senders none)

-- where no error was counted more, none stands by the entries that a journal has more
pub no_new_errors : (x y : SiteState) → Grows x y → added_count is_error x y ≡ 0 → (senders : List SenderState)
    → flat_map (errors_from (take (length y.journal - length x.journal) y.journal)) senders ≡ []
no_new_errors x y g none senders =
    let counted : count_where is_error y.journal ≡ count_where is_error g.front + count_where is_error x.journal = ap (count_where is_error) g.is ∙ count_where-append is_error g.front x.journal in
    ap (λ (es : List Entry). flat_map (errors_from (take (length es - length x.journal) es)) senders) g.is
    ∙ ap (λ (es : List Entry). flat_map (errors_from es) senders) (take-front g.front x.journal)
    ∙ errors_from-none g.front senders (omega (arith, counted, none))
