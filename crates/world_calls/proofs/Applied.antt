-- What a receiver tells of the calls that it applied, and that what it does is a step of a push.
use Rattle.std.proofs.Common.{◌≡◌, ℕ, ◌+◌, ◌-◌, ◌≤◌, List, [], ◌++◌, length, take, get_or, set, Some, sym, ap, ◌∙◌, arith, append_assoc, append-nil, length-append}
use Rattle.std.specs.Prelude.{Option, flat_map}
use Rattle.rep_values.specs.declared.name.SiteName.{SiteName}
use Rattle.error_queue.specs.declared.entry.ErrorEntry.{ErrorEntry}
use Rattle.report_text.specs.Texts.{push_calls_text}
use Rattle.site_state.specs.declared.answers.PassCount.{PassCount}
use Rattle.site_state.specs.Journal.{low_water}
use Rattle.site_state.specs.Passes.{is_done, is_error, added_count}
use Rattle.proc_state.specs.State.{ProcState, as_site}
use Rattle.world_state.specs.Procs.{Procs, proc_of}
use Rattle.world_state.specs.CallPushes.{proc_until_quiet, calls_until_quiet, calls_count_in, calls_errors_in}
use Rattle.site_rounds.specs.NewErrors.{error_entry_text, new_errors}
use Rattle.site_rounds.specs.Parts.{finished_in}
use Rattle.site_rounds.proofs.Growing.{newest_finish}
use Rattle.site_rounds.proofs.NoErrors.{no_new_errors}
use Rattle.world.specs.Finding.{IsProcAt}
use Rattle.world.specs.Following.{MakePasses}
use Rattle.world.specs.Calling.{proc_parts, CallsPushInPart}
use Rattle.world.specs.Texts.{new_error_text}
use Rattle.world.proofs.ProcPlaces.{proc_of-procs, procs-written}
use Rattle.world.proofs.CallsFollowing.{calls_part_one}
use Rattle.world_calls.specs.Applying.{told_calls_text, PartlyPassed}
use Rattle.world_calls.proofs.Passing.{passes_so_far_grow}

-- where no error was counted none is told
no_errors : (origin : SiteName) (x : ProcState) → added_count is_error (as_site x) (as_site (proc_until_quiet origin x)) ≡ 0 → calls_errors_in origin (Some x) ≡ []
no_errors origin x none = no_new_errors (as_site x) (as_site (proc_until_quiet origin x)) (passes_so_far_grow origin x) none (proc_until_quiet origin x).senders

-- the journal is no shorter
pub applied_longer : (origin : SiteName) (x y : ProcState) (before : ℕ) → y ≡ proc_until_quiet origin x → before ≡ length x.journal → before ≤ length y.journal
applied_longer origin x y before is begins =
    let g = passes_so_far_grow origin x in
    let same : length y.journal ≡ length g.front + length x.journal = ap (λ (z : ProcState). length z.journal) is ∙ ap length g.is ∙ length-append g.front x.journal in
    omega (arith, same, begins)

-- ---- what is told

module _ (origin to : SiteName) (sent low before newest : ℕ) (passed : PassCount) (x y : ProcState) (old lined : List ℕ) (applied : y ≡ proc_until_quiet origin x) (begins : before ≡ length x.journal)
    (newest_is : newest ≡ length y.journal - before) (passed_is : passed ≡ finished_in (take newest y.journal)) (low_is : low ≡ low_water origin y.journal)
    (line : lined ≡ old ++ push_calls_text origin.0 to.0 (record { sent = sent; done = passed.done; errors = passed.errors; low = low })) where
  abbrev z : ProcState
  z = proc_until_quiet origin x

  finished : passed ≡ record { done = added_count is_done (as_site x) (as_site z); errors = added_count is_error (as_site x) (as_site z) }
  finished =
      passed_is ∙ ap (λ (n : ℕ). finished_in (take n y.journal)) (newest_is ∙ ap (λ (n : ℕ). length y.journal - n) begins)
      ∙ ap (λ (v : ProcState). finished_in (take (length v.journal - length x.journal) v.journal)) applied
      ∙ newest_finish (as_site x) (as_site z) (passes_so_far_grow origin x)

  counted : push_calls_text origin.0 to.0 (record { sent = sent; done = passed.done; errors = passed.errors; low = low }) ≡ push_calls_text origin.0 to.0 (calls_count_in sent origin (Some x))
  counted =
      ap (λ (c : PassCount). push_calls_text origin.0 to.0 (record { sent = sent; done = c.done; errors = c.errors; low = low })) finished
      ∙ ap (λ (l : ℕ). push_calls_text origin.0 to.0 (record { sent = sent; done = added_count is_done (as_site x) (as_site z); errors = added_count is_error (as_site x) (as_site z); low = l }))
      (low_is ∙ ap (λ (v : ProcState). low_water origin v.journal) applied)

  lined_is : lined ≡ old ++ push_calls_text origin.0 to.0 (calls_count_in sent origin (Some x))
  lined_is = line ∙ ap (λ (text : List ℕ). old ++ text) counted

  -- no error was counted
  pub told_none : passed.errors ≡ 0 → lined ≡ old ++ told_calls_text origin to sent (Some x)
  told_none none =
      let no : added_count is_error (as_site x) (as_site z) ≡ 0 = sym (ap (λ (c : PassCount). c.errors) finished) ∙ none in
      let all : List ℕ = push_calls_text origin.0 to.0 (calls_count_in sent origin (Some x)) in
      lined_is ∙ ap (λ (text : List ℕ). old ++ text) (sym (append-nil all))
      ∙ ap (λ (es : List ErrorEntry). old ++ (all ++ flat_map new_error_text es)) (sym (no_errors origin x no))

  -- errors are listed
  pub told_some : (listed : List ℕ) → listed ≡ lined ++ flat_map error_entry_text (new_errors before (as_site y)) → listed ≡ old ++ told_calls_text origin to sent (Some x)
  told_some listed is =
      let all : List ℕ = push_calls_text origin.0 to.0 (calls_count_in sent origin (Some x)) in
      let new : flat_map error_entry_text (new_errors before (as_site y)) ≡ flat_map new_error_text (calls_errors_in origin (Some x))
      = ap (λ (n : ℕ). flat_map error_entry_text (new_errors n (as_site y))) begins ∙ ap (λ (v : ProcState). flat_map error_entry_text (new_errors (length x.journal) (as_site v))) applied in
      is ∙ ap (λ (text : List ℕ). text ++ flat_map error_entry_text (new_errors before (as_site y))) lined_is
      ∙ ap (λ (text : List ℕ). (old ++ all) ++ text) new
      ∙ append_assoc old all (flat_map new_error_text (calls_errors_in origin (Some x)))

-- ---- all sites

module _ (origin name : SiteName) (p old : Procs) (seen : List ProcState) (place : ℕ) (x : ProcState) (old_is : p ≡ old) (seen_is : seen ≡ p.sites) (at : IsProcAt name seen place)
    (stands : x ≡ get_or p.sites place x) where
  -- what is told of the receiver is told of the site of its name
  pub told_there : (sent : ℕ) (before told : List ℕ) → told ≡ before ++ told_calls_text origin name sent (Some x) → told ≡ before ++ told_calls_text origin name sent (proc_of name old.sites)
  told_there sent before told is =
      is ∙ ap (λ (there : Option ProcState). before ++ told_calls_text origin name sent there) (sym (proc_of-procs name p old seen place x old_is seen_is at stands))

  -- its passes are a step of a push
  pub passed_in_part : (y : ProcState) → PartlyPassed x y → CallsPushInPart origin name old (record p { sites = set p.sites place y })
  passed_in_part y parts = calls_part_one origin name (MakePasses parts.0) old _ (procs-written name p old seen place x old_is seen_is at stands (proc_parts parts.0) y parts.1)

  -- all of them applies what came until all is quiet
  pub until_quiet_calls : (y : ProcState) → y ≡ proc_until_quiet origin x → record p { sites = set p.sites place y } ≡ calls_until_quiet origin name old
  until_quiet_calls y is = procs-written name p old seen place x old_is seen_is at stands (proc_until_quiet origin) y is
