-- The positions before the place aren't ready.
use Rattle.std.proofs.Common.{◌≡◌, drop}
use Rattle.std.specs.List.{list_any}
use Rattle.site_state.specs.State.{arrivals}
use Rattle.site_state.specs.Ready.{is_ready}
use Rattle.proc_state.specs.State.{as_site}
use Rattle.proc_calls.proofs.site.ProcSite.has_ready.Given as goal

abbrev pub invariant-loop-place : goal.invariant-loop-place
invariant-loop-place l = record {
  so_far : list_any (λ a. is_ready l.origin a.position (as_site l.self)) (arrivals l.origin (as_site l.self))
      ≡ list_any (λ a. is_ready l.origin a.position (as_site l.self)) (drop l.place (arrivals l.origin (as_site l.self)));
}
