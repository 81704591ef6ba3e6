use Rattle.std.proofs.Common.{[], sym, ap, ◌∙◌, subst}
use Rattle.std.proofs.lemmas.List.{get_or_read}
use Rattle.std.proofs.lemmas.Option.{slice_get-get_or}
use Rattle.rep_lists.specs.Rising.{find_at}
use Rattle.rep_lists.proofs.Rising.{find_there, find_gap}
use Rattle.page_tables.specs.Pages.{IsParted}
use Rattle.page_tables.proofs.InPages.{find_paged, page_parted}
use Rattle.page_tables.proofs.page_search.find.Goals as goal

pub search-requires : goal.search-requires
search-requires g c =
    let for = c.page_for-at.ensures in
    let page = c.slots-slots.ensures.value ∙ get_or_read _ _ _ for.in_range c.index-pages-at.is [] in
    subst (IsParted (g.S.Sought.at c.args.sought.now)) (sym page) (page_parted (g.S.Sought.at c.args.sought.now) _ _ for.in_range c.requires.parted)

pub returns-in-Ok : goal.returns-in-Ok
returns-in-Ok g c =
    let for = c.page_for-at.ensures in
    let page = c.slots-slots.ensures.value ∙ get_or_read _ _ _ for.in_range c.index-pages-at.is [] in
    (c.slot_in.ensures ∙ slice_get-get_or c.slots-slots.result.now c.in-Ok.place 0 c.in-Ok.ensures.found.in_range) ∙ (sym (find_there _ _ _ _ c.in-Ok.ensures.found) ∙ (ap (find_at (g.S.Sought.at c.args.sought.now)) page ∙ sym (find_paged _ _ _ for)))

pub returns-in-Err : goal.returns-in-Err
returns-in-Err g c =
    let for = c.page_for-at.ensures in
    let page = c.slots-slots.ensures.value ∙ get_or_read _ _ _ for.in_range c.index-pages-at.is [] in
    sym (find_gap _ _ _ c.in-Err.ensures.absent) ∙ (ap (find_at (g.S.Sought.at c.args.sought.now)) page ∙ sym (find_paged _ _ _ for))
