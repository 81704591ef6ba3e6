use Rattle.std.proofs.Common.{◌≡◌, ◌≤◌, length, Bool, true, false, ap, sym, ◌∙◌, arith}
use Rattle.std.specs.Prelude.{count_by}
use Rattle.std.proofs.lemmas.List.{drop_all}
use Rattle.rep_schema.specs.declared.schema.Schema.{Schema}
use Rattle.error_queue.specs.declared.entry.ErrorEntry.{ErrorEntry}
use Rattle.error_queue.specs.ErrorLists.{in_order}
use Rattle.rep_schema.specs.Sites.{is_master_site}
use Rattle.master_join.proofs.UnfinishedPositions.{is_of_master, count_here}
use Rattle.master_join.proofs.quiet.master_errors.Goals as goal
use Rattle.master_join.proofs.quiet.master_errors.Goals.{then-is_master_site, else-is_master_site}

pub loop-place-init : goal.loop-place-init
loop-place-init g c = record { counted = omega (arith, ap (count_by (is_of_master c.args.site.now)) c.errors-errors.ensures); few = omega arith }

pub loop-place-preserved : goal.loop-place-preserved
loop-place-preserved g c =
    let test : ErrorEntry → Bool = is_of_master c.args.site.now in
    let error = c.in-Some.error.now in
    let more = count_here test (in_order c.errors-errors.result.now.lists) c.loop-place.place error (sym c.in-Some.ensures) in
    let known = c.schema-schema.ensures.value ∙ c.store.ensures.schema in
    let is : test error ≡ c.is_master_site.result = sym (c.is_master_site.ensures ∙ ap (λ (s : Schema). is_master_site s error.origin) known) in
    elim c.if-is_master_site.branch [
      | then-is_master_site w ↦
          let here : test error ≡ true = is ∙ w.if-is_master_site.true in
          record { counted = omega (arith, c.loop-place.invariant.counted, w.count-is, rw here at more); few = omega (arith, c.loop-place.invariant.few, w.count-is) }
      | else-is_master_site w ↦
          let here : test error ≡ false = is ∙ w.if-is_master_site.false in
          record { counted = omega (arith, c.loop-place.invariant.counted, w.count-is, rw here at more); few = omega (arith, c.loop-place.invariant.few, w.count-is) }
    ]

pub returns : goal.returns
returns g c =
    let errors = in_order c.errors-errors.result.now.lists in
    let past : length errors ≤ c.loop-place.place = omega (arith, c.loop-place-test.false, c.len-place-end.ensures) in
    let counted = rw (drop_all c.loop-place.place errors past) at c.loop-place.invariant.counted in
    omega (arith, counted)
