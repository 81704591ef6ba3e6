use Rattle.std.proofs.Common.{◌≡◌, ◌<◌, ◌≤◌, ◌∙◌, arith, length, subst, sym, ap}
use Rattle.std.proofs.lemmas.List.{take_all}
use Rattle.rep_lists.proofs.Places.{found_at}
use Rattle.site_state.specs.State.{arrivals}
use Rattle.rep_lists.specs.Counting.{count_where}
use Rattle.site_state.specs.Passes.{is_done, is_error, added_count}
use Rattle.proc_state.specs.State.{as_site}
use Rattle.proc_state.specs.Passes.{proc_apply_answer, apply_each}
use Rattle.proc_calls.proofs.Passing.{count_done, count_errors, count_more, kept_more, pass_starts, nothing_added, arrivals_stay, pass_goes_on, counts_are, one_at_most}
use Rattle.proc_calls.proofs.site.ProcSite.pass.Goals as goal

pub loop-place-init : goal.loop-place-init
loop-place-init c =
    let old = c.args.self.now in
    let origin = c.args.origin.now in
    let first = rw c.mark.ensures at c.arrivals_above-start.ensures.place in
    record {
      so_far = pass_starts origin old c.arrivals_above-start.result first c.arrivals_above-start.ensures.from_one;
      done = nothing_added origin old is_done;
      errors = nothing_added origin old is_error;
      done_kept = omega arith;
      errors_kept = omega arith;
      few = omega arith;
    }

pub position_at-position-requires : goal.position_at-position-requires
position_at-position-requires c =
    let below : c.loop-place.place < length (arrivals c.args.origin.now (as_site c.args.self.now)) = rw c.arrived-place-end.ensures at c.loop-place-test.true in
    let stay = arrivals_stay c.args.origin.now c.args.self.now c.loop-place.self c.loop-place.place c.loop-place.invariant.so_far in
    subst (λ xs. c.loop-place.place < length xs) (sym stay) below

pub loop-place-preserved : goal.loop-place-preserved
loop-place-preserved c =
    let old = c.args.self.now in
    let now = c.loop-place.self in
    let origin = c.args.origin.now in
    let place = c.loop-place.place in
    let l = c.loop-place.invariant in
    let all = arrivals origin (as_site old) in
    let stay = arrivals_stay origin old now place l.so_far in
    let below : place < length all = rw c.arrived-place-end.ensures at c.loop-place-test.true in
    let here = found_at all place below in
    let position = c.position_at-position.result in
    let p = c.position_at-position.ensures here.0 (rw stay here.1) in
    let ok = c.in_ok-count.ensures.ok in
    let counted = c.in_ok-count.count in
    let done = count_done origin position now in
    let errors = count_errors origin position now in
    record {
      so_far = pass_goes_on origin old now c.apply_counting.new.self place here.0 position l.so_far here.1 p ok;
      done = subst (λ y. counted.done ≡ added_count is_done (as_site old) (as_site y)) (sym ok) (count_more is_done old now origin position _ done l.done_kept _ _ l.done c.in_ok-count.ensures.done);
      errors = subst (λ y. counted.errors ≡ added_count is_error (as_site old) (as_site y)) (sym ok) (count_more is_error old now origin position _ errors l.errors_kept _ _ l.errors c.in_ok-count.ensures.errors);
      done_kept = subst (λ y. count_where is_done old.journal ≤ count_where is_done y.journal) (sym ok) (kept_more is_done old now origin position _ done l.done_kept);
      errors_kept = subst (λ y. count_where is_error old.journal ≤ count_where is_error y.journal) (sym ok) (kept_more is_error old now origin position _ errors l.errors_kept);
      few = omega (arith, l.few, c.in_ok-count.ensures.done, c.in_ok-count.ensures.errors, one_at_most (proc_apply_answer origin position now));
    }

pub returns-clause-ok : goal.returns-clause-ok
returns-clause-ok c =
    let old = c.args.self.now in
    let all = arrivals c.args.origin.now (as_site old) in
    let past = rw c.arrived-place-end.ensures at c.loop-place-test.false in
    c.loop-place.invariant.so_far ∙ ap (λ xs. apply_each c.args.origin.now xs old) (take_all c.loop-place.place all past)

pub returns-clause-count : goal.returns-clause-count
returns-clause-count c =
    let old = c.args.self.now in
    let origin = c.args.origin.now in
    let all = arrivals origin (as_site old) in
    let past = rw c.arrived-place-end.ensures at c.loop-place-test.false in
    let l = c.loop-place.invariant in
    let end = l.so_far ∙ ap (λ xs. apply_each origin xs old) (take_all c.loop-place.place all past) in
    counts_are origin old c.loop-place.count (subst (λ y. c.loop-place.count.done ≡ added_count is_done (as_site old) (as_site y)) end l.done)
    (subst (λ y. c.loop-place.count.errors ≡ added_count is_error (as_site old) (as_site y)) end l.errors)
