-- Setting first numbers from the last one given to the first.
use Rattle.std.proofs.Common.{◌≡◌, [], drop}
use Rattle.master_join.specs.Firsts.{with_firsts}
use Rattle.master_join.proofs.firsts.set_firsts.Given as goal

-- those from the place on are set, and nothing happened at the site
abbrev pub invariant-loop-place : goal.invariant-loop-place
invariant-loop-place g l = record {
  so_far : l.site ≡ with_firsts (drop l.place l.firsts) l.fn.site;
  nothing : l.site.journal ≡ [];
}
