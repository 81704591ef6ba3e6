use Rattle.std.proofs.Common.{◌<◌, ◌≤◌, ap, sym, ◌∙◌, subst, arith}
use Rattle.std.specs.List.Sorted.{IsNonDecreasingBy, IsPartitionPoint}
use Rattle.std.specs.Prelude.{slice_get}
use Rattle.page_tables.specs.Pages.{page_values}
use Rattle.page_tables.proofs.InStarts.{length-sums, starts_rise, none_started, slot_there}
use Rattle.page_tables.proofs.page_search.slot_at.Goals as goal

pub started-requires : goal.started-requires
started-requires c = subst (IsNonDecreasingBy (λ start. start)) (sym c.requires) (starts_rise c.args.pages.now)

pub slot_of-requires : goal.slot_of-requires
slot_of-requires c = let h = c.in_default in let same = length-sums c.args.pages.now c.args.starts.now c.requires in omega (arith, same, c.started.ensures.bound, h)

-- no page starts at the place or before it
pub returns-in-0 : goal.returns-in-0
returns-in-0 c =
    let point = subst (IsPartitionPoint (λ start. start ≤ c.args.place) (λ start. c.args.place < start) c.args.starts.now) c.in-0.is c.started.ensures.point in
    let behind = subst (λ t. IsPartitionPoint (λ start. start ≤ c.args.place) (λ start. c.args.place < start) t 0) c.requires point in
    ap (λ pages. slice_get (page_values pages) c.args.place) (sym (none_started c.args.pages.now c.args.place behind.1))

pub returns-in_default : goal.returns-in_default
returns-in_default c =
    let some : 0 < c.started.result = (let h = c.in_default in omega (arith, h)) in
    c.slot_of.ensures ∙ sym (slot_there c.args.pages.now c.args.starts.now c.args.place c.started.result c.requires c.started.ensures.point c.started.ensures.bound some)
