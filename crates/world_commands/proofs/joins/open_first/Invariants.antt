-- The sites up to the place are opened.
use Rattle.std.proofs.Common.{◌≡◌, ◌≤◌, ◌++◌, map, take, drop, vec_len}
use Rattle.site_state.specs.Joining.{site_open}
use Rattle.world_commands.proofs.joins.open_first.Given as goal

abbrev pub invariant-loop-place : goal.invariant-loop-place
invariant-loop-place l = record {
  opened : l.sites.items ≡ map (site_open l.site) (take l.place l.fn.sites.items) ++ drop l.place l.fn.sites.items;
  number : vec_len l.sites ≡ vec_len l.fn.sites;
  few : l.place ≤ l.count;
}
