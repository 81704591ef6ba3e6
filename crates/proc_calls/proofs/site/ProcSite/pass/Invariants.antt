-- The positions up to the place are applied.
use Rattle.std.proofs.Common.{◌≡◌, ◌+◌, ◌≤◌, take}
use Rattle.site_state.specs.State.{arrivals}
use Rattle.rep_lists.specs.Counting.{count_where}
use Rattle.site_state.specs.Passes.{is_done, is_error, added_count}
use Rattle.proc_state.specs.State.{as_site}
use Rattle.proc_state.specs.Passes.{apply_each}
use Rattle.proc_calls.proofs.site.ProcSite.pass.Given as goal

abbrev pub invariant-loop-place : goal.invariant-loop-place
invariant-loop-place l = record {
  so_far : l.self ≡ apply_each l.origin (take l.place (arrivals l.origin (as_site l.fn.self))) l.fn.self;
  done : l.count.done ≡ added_count is_done (as_site l.fn.self) (as_site l.self);
  errors : l.count.errors ≡ added_count is_error (as_site l.fn.self) (as_site l.self);
  done_kept : count_where is_done l.fn.self.journal ≤ count_where is_done l.self.journal;
  errors_kept : count_where is_error l.fn.self.journal ≤ count_where is_error l.self.journal;
  few : l.count.done + l.count.errors ≤ l.place;
}
