-- The positions up to the place are applied.
use Rattle.std.proofs.Common.{◌≡◌, ◌+◌, ◌-◌, ◌≤◌, length, take}
use Rattle.site_state.specs.State.{arrivals}
use Rattle.rep_lists.specs.Counting.{count_where}
use Rattle.site_state.specs.Passes.{apply_each, is_done, is_error, added_count}
use Rattle.site_engine.proofs.site.Site.finish_pass.Given as goal

abbrev pub invariant-loop-next : goal.invariant-loop-next
invariant-loop-next g l = record {
  so_far : l.self ≡ apply_each l.origin (take l.place (arrivals l.origin l.fn.self)) l.fn.self;
  within : l.place ≤ length (arrivals l.origin l.fn.self);
  done : l.count.done ≡ added_count is_done l.fn.self l.self;
  errors : l.count.errors ≡ added_count is_error l.fn.self l.self;
  done_kept : count_where is_done l.fn.self.journal ≤ count_where is_done l.self.journal;
  errors_kept : count_where is_error l.fn.self.journal ≤ count_where is_error l.self.journal;
  few : l.count.done + l.count.errors ≤ l.place;
}

-- what is left of what arrived
abbrev pub decreases-loop-next : goal.decreases-loop-next
decreases-loop-next g l = length (arrivals l.origin l.fn.self) - l.place
