-- Counting master sites.
use Rattle.std.proofs.Common.{◌≡◌, ◌≤◌, take}
use Rattle.std.specs.List.{count_by}
use Rattle.rep_schema.specs.Shape.{is_master}
use Rattle.rep_declare.proofs.refusals.master_count.Given as goal

-- those of the front are counted
abbrev pub invariant-loop-site : goal.invariant-loop-site
invariant-loop-site l = record {
  within : l.count ≤ l.site-index;
  counted : l.count ≡ count_by is_master (take l.site-index l.sites);
}
