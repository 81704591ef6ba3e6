use Rattle.std.proofs.Common.{◌≡◌, ◌-◌, true, Some, reverse, refl, sym, ap, ◌∙◌, arith}
use Rattle.std.specs.Prelude.{slice_get}
use Rattle.rep_schema.specs.Sites.{is_master_site}
use Rattle.site_cases.proofs.Newest.{newest_can_be_sorted}
use Rattle.site_cases.proofs.works.settle_newest.Goals as goal

pub sort_new_entries-requires-clause-entries : goal.sort_new_entries-requires-clause-entries
sort_new_entries-requires-clause-entries c κs =
    let origin = c.in-Some-finished_origin.origin in
    let newest = c.journal_len-count.result - 1 in
    let journal = c.args.site.now.journal in
    let found : slice_get (reverse journal) newest ≡ Some c.in-Some.entry.now = sym c.journal.ensures ∙ rw c.in-Some.is refl in
    let is_master : is_master_site c.args.site.now.schema origin ≡ true =
    sym (ap (λ schema. is_master_site schema origin) (c.schema-2.ensures.value ∙ c.store-2.ensures.schema)) ∙ sym c.is_master_site.ensures ∙ c.if-not-is_master_site.false in (
      origin,
      newest_can_be_sorted c.args.site.now.schema origin newest journal c.in-Some.entry.now (omega (arith, c.journal_len-count.ensures, c.if-count-eq0.false)) found c.in-Some-finished_origin.ensures
          is_master,
    )
