use Rattle.std.proofs.Common.{[], get_or, set, remove, Some, sym, ap, ◌∙◌, subst}
use Rattle.std.proofs.lemmas.List.{get_or_read, set-get_or}
use Rattle.rep_lists.specs.Rising.{find_at, take_at}
use Rattle.rep_lists.proofs.Rising.{find_there, find_gap, take_there, take_gap}
use Rattle.page_tables.specs.Pages.{page_values, IsParted}
use Rattle.page_tables.proofs.InPages.{find_paged, take_paged, page_parted}
use Rattle.page_tables.proofs.directory.Directory.take_out.Goals as goal

pub search-requires : goal.search-requires
search-requires g c =
    let for = rw c.deref.ensures.value at c.page_for-at.ensures in
    let page = c.slots.ensures.value ∙ get_or_read _ _ _ for.in_range c.index.ensures [] in
    subst (IsParted (g.S.Sought.at c.args.sought.now)) (sym page) (page_parted (g.S.Sought.at c.args.sought.now) _ _ for.in_range c.requires.parted)

pub returns-in-Ok-clause-taken : goal.returns-in-Ok-clause-taken
returns-in-Ok-clause-taken g c =
    let for = rw c.deref.ensures.value at c.page_for-at.ensures in
    let page = c.slots.ensures.value ∙ get_or_read _ _ _ for.in_range c.index.ensures [] in
    ap Some (c.take_from.ensures.value ∙ ap (λ t. get_or t c.in-Ok.place c.take_from.result) (sym page))
    ∙ (sym (find_there _ _ _ _ c.in-Ok.ensures.found) ∙ (ap (find_at (g.S.Sought.at c.args.sought.now)) page ∙ sym (find_paged _ _ _ for)))

pub returns-in-Ok-clause-slots : goal.returns-in-Ok-clause-slots
returns-in-Ok-clause-slots g c =
    let for = rw c.deref.ensures.value at c.page_for-at.ensures in
    let page = c.slots.ensures.value ∙ get_or_read _ _ _ for.in_range c.index.ensures [] in
    let taken = ap (take_at (g.S.Sought.at c.args.sought.now)) (sym page) ∙ (take_there _ _ _ c.in-Ok.ensures.found ∙ ap (λ t. remove t c.in-Ok.place) page) in
    c.take_from.ensures.slots ∙ sym (take_paged _ _ _ for ∙ ap (λ t. page_values (set c.args.self.now.pages.items c.page_for-at.result t)) taken)

pub returns-in-Err-clause-taken : goal.returns-in-Err-clause-taken
returns-in-Err-clause-taken g c =
    let for = rw c.deref.ensures.value at c.page_for-at.ensures in
    let page = c.slots.ensures.value ∙ get_or_read _ _ _ for.in_range c.index.ensures [] in
    sym (find_gap _ _ _ c.in-Err.ensures.absent) ∙ (ap (find_at (g.S.Sought.at c.args.sought.now)) page ∙ sym (find_paged _ _ _ for))

pub returns-in-Err-clause-slots : goal.returns-in-Err-clause-slots
returns-in-Err-clause-slots g c =
    let for = rw c.deref.ensures.value at c.page_for-at.ensures in
    let page = c.slots.ensures.value ∙ get_or_read _ _ _ for.in_range c.index.ensures [] in
    let taken = ap (take_at (g.S.Sought.at c.args.sought.now)) (sym page) ∙ (take_gap _ _ _ c.in-Err.ensures.absent ∙ page) in
    sym (take_paged _ _ _ for ∙ (ap (λ t. page_values (set c.args.self.now.pages.items c.page_for-at.result t)) taken ∙ ap page_values (set-get_or c.args.self.now.pages.items c.page_for-at.result [])))
