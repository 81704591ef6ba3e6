use Rattle.std.proofs.Common.{◌≡◌}
use Rattle.std.specs.List.{All}
use Rattle.site_gate.specs.Passes.{IsPassOf, opening_of}
use Rattle.live_streams.proofs.threads.jobs_at.Given as goal

-- the jobs so far have passes to the gate
abbrev pub invariant-loop-work : goal.invariant-loop-work
invariant-loop-work g l =
    IsPassOf l.gate l.pass
    × (opening_of l.pass ≡ opening_of l.fn.pass)
    × All (λ job. IsPassOf l.gate job.pass) l.jobs.items
