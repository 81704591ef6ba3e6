use Rattle.std.proofs.Common.{rules, [], get_or, set, insert, length, Some, sym, ap, ◌∙◌, subst, inl, inr, arith}
use mathlib.Core.Bool.{false≢true}
use Rattle.std.proofs.lemmas.List.{get_or_read, nil_from_length}
use Rattle.rep_lists.specs.Rising.{find_at, put_at}
use Rattle.rep_lists.proofs.Rising.{find_there, find_gap, put_gap}
use Rattle.page_tables.specs.Pages.{page_values, IsParted}
use Rattle.page_tables.proofs.InPages.{find_paged, put_paged, page_parted}
use Rattle.page_tables.proofs.Close.{page_waits}
use Rattle.page_tables.proofs.directory.Directory.enter.Goals as goal

pub search-requires : goal.search-requires
search-requires g c =
    let for = rw c.deref-2.ensures.value at c.page_for-at.ensures in
    let page = c.slots-slots.ensures.value ∙ get_or_read _ _ _ for.in_range c.index.ensures [] in
    subst (IsParted (g.S.Sought.at c.args.sought.now)) (sym page) (page_parted (g.S.Sought.at c.args.sought.now) _ _ for.in_range c.requires.parted)

-- nothing is found, so there is room
pub insert_into-requires-clause-room : goal.insert_into-requires-clause-room
insert_into-requires-clause-room g c =
    let for = rw c.deref-2.ensures.value at c.page_for-at.ensures in
    let page = c.slots-slots.ensures.value ∙ get_or_read _ _ _ for.in_range c.index.ensures [] in
    let none = find_paged _ _ _ for ∙ (ap (find_at (g.S.Sought.at c.args.sought.now)) (sym page) ∙ find_gap _ _ _ c.in-Err.ensures.absent) in
    elim c.requires.room [
      | inl there ↦ absurd (false≢true (rw none at there))
      | inr room ↦ room
    ]

pub insert_into-requires-clause-waits : goal.insert_into-requires-clause-waits
insert_into-requires-clause-waits g c =
    let for = rw c.deref-2.ensures.value at c.page_for-at.ensures in
    let page = c.slots-slots.ensures.value ∙ get_or_read _ _ _ for.in_range c.index.ensures [] in
    let none = find_paged _ _ _ for ∙ (ap (find_at (g.S.Sought.at c.args.sought.now)) (sym page) ∙ find_gap _ _ _ c.in-Err.ensures.absent) in
    elim c.requires.room [
      | inl there ↦ absurd (false≢true (rw none at there))
      | inr room ↦ (let waits = page_waits c.args.self.now.pages.items c.args.self.now.waiting.items c.requires.whole.are.close room in omega (arith, waits))
    ]

-- nothing is found where there is no page
pub start-requires-clause-waits : goal.start-requires-clause-waits
start-requires-clause-waits g c =
    let empty = nil_from_length c.args.self.now.pages.items (search rules) in
    elim c.requires.room [
      | inl there ↦ absurd (false≢true (rw empty at there))
      | inr room ↦ (let waits = page_waits c.args.self.now.pages.items c.args.self.now.waiting.items c.requires.whole.are.close room in omega (arith, waits))
    ]

pub start-requires-clause-room : goal.start-requires-clause-room
start-requires-clause-room g c =
    let empty = nil_from_length c.args.self.now.pages.items (search rules) in
    elim c.requires.room [
      | inl there ↦ absurd (false≢true (rw empty at there))
      | inr room ↦ room
    ]

pub returns-in-Ok-clause-found : goal.returns-in-Ok-clause-found
returns-in-Ok-clause-found g c =
    let for = rw c.deref-2.ensures.value at c.page_for-at.ensures in
    let page = c.slots-slots.ensures.value ∙ get_or_read _ _ _ for.in_range c.index.ensures [] in
    let read = c.slot.ensures ∙ ap (λ t. get_or t c.in-Ok.place c.slot.result) (get_or_read _ _ _ for.in_range c.index-in-Ok.ensures [] ∙ sym page) in
    ap Some read ∙ (sym (find_there _ _ _ _ c.in-Ok.ensures.found) ∙ (ap (find_at (g.S.Sought.at c.args.sought.now)) page ∙ sym (find_paged _ _ _ for)))

pub returns-in-Err-clause-found : goal.returns-in-Err-clause-found
returns-in-Err-clause-found g c =
    let for = rw c.deref-2.ensures.value at c.page_for-at.ensures in
    let page = c.slots-slots.ensures.value ∙ get_or_read _ _ _ for.in_range c.index.ensures [] in
    sym (find_gap _ _ _ c.in-Err.ensures.absent) ∙ (ap (find_at (g.S.Sought.at c.args.sought.now)) page ∙ sym (find_paged _ _ _ for))

pub returns-in-Err-clause-slots : goal.returns-in-Err-clause-slots
returns-in-Err-clause-slots g c =
    let for = rw c.deref-2.ensures.value at c.page_for-at.ensures in
    let page = c.slots-slots.ensures.value ∙ get_or_read _ _ _ for.in_range c.index.ensures [] in
    let put = ap (put_at (g.S.Sought.at c.args.sought.now) c.args.slot) (sym page) ∙ (put_gap _ c.args.slot _ _ c.in-Err.ensures.absent ∙ ap (λ t. insert t c.in-Err.place c.args.slot) page) in
    c.insert_into.ensures.slots ∙ sym (put_paged _ _ _ for c.args.slot ∙ ap (λ t. page_values (set c.args.self.now.pages.items c.page_for-at.result t)) put)

pub slot-requires : goal.slot-requires
slot-requires g c =
    let for = rw c.deref-2.ensures.value at c.page_for-at.ensures in
    let page = c.slots-slots.ensures.value ∙ get_or_read _ _ _ for.in_range c.index.ensures [] in
    let same = ap length (page ∙ sym (get_or_read _ _ _ for.in_range c.index-in-Ok.ensures [])) in
    omega (arith, c.in-Ok.ensures.found.in_range, same)
