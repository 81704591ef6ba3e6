-- What a position adds to a journal, to the error queue and to the count of a pass.
use Rattle.std.specs.Prelude.{ℕ, List, Option, Some, None}
use Rattle.rep_values.specs.declared.name.SiteName.{SiteName}
use Rattle.rep_calls.specs.declared.call.Txn.{Txn}
use Rattle.error_queue.specs.declared.entry.ErrorEntry.{ErrorEntry}
use Rattle.error_queue.specs.ErrorLists.{ErrorList, added}
use Rattle.site_state.specs.declared.entry.Entry.{Entry}
use Rattle.site_state.specs.declared.entry.Entry.TheVariants as entry
use Rattle.site_state.specs.declared.answers.Applied.{Applied}
use Rattle.site_state.specs.declared.answers.Applied.TheVariants as applied
use Rattle.sender_inbox.specs.declared.steps.ApplyOutcome.{ApplyOutcome}
use Rattle.sender_inbox.specs.declared.steps.ApplyOutcome.TheVariants.{Done, Failed}

-- the entry of a position whose transaction comes out so, the answer, and the error that stands then
abbrev pub entry_of : SiteName → ℕ → Txn → ApplyOutcome → Entry
entry_of origin position txn (Done onward) = entry.Done origin position onward txn
entry_of origin position txn (Failed call error) = entry.Error origin position call error txn

abbrev pub answer_of : ApplyOutcome → Applied
answer_of (Done onward) = applied.Done
answer_of (Failed call error) = applied.Error error

abbrev pub error_of : SiteName → ℕ → Txn → ApplyOutcome → Option ErrorEntry
error_of origin position txn (Done onward) = None
error_of origin position txn (Failed call error) = Some (record { origin = origin; position = position; call = call; error = error; txn = txn })

-- the errors with one more, where there is one
abbrev pub with_error : Option ErrorEntry → List ErrorList → List ErrorList
with_error None lists = lists
with_error (Some e) lists = added e lists

-- how many transactions are done, and how many in error, by what became of a position
abbrev pub done_by : Applied → ℕ
done_by applied.Done = 1
done_by (applied.Error error) = 0
done_by (applied.Stale why) = 0

abbrev pub errors_by : Applied → ℕ
errors_by applied.Done = 0
errors_by (applied.Error error) = 1
errors_by (applied.Stale why) = 0
