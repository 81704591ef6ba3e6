use Rattle.std.proofs.Common.{◌<◌, [], length, set, remove, refl, sym, ap, ◌∙◌, arith}
use Rattle.std.proofs.lemmas.List.{get_or_read, get_or-set_same, length-set}
use Rattle.std.proofs.lemmas.List.Edits.{length-remove}
use Rattle.page_tables.specs.Pages.{page_values}
use Rattle.page_tables.proofs.PageSteps.{some_left, not_short, are_kept_now, are_dropped, are_joined_next, are_joined_before}
use Rattle.page_tables.proofs.InStarts.{length-sums, lower_some, lowered}
use Rattle.page_tables.proofs.directory.Directory.take_from.Goals as goal

pub returns-then-is_empty-clause-slots : goal.returns-then-is_empty-clause-slots
returns-then-is_empty-clause-slots c =
    let pages = c.args.self.now.pages.items in
    let page = c.remove-slot.new.self in
    let within : c.args.at < length (set pages c.args.at page) = omega (arith, length-set pages c.args.at page, c.requires.at) in
    let taken = c.remove-slot.ensures.after ∙ ap (λ t. remove t c.args.place) (get_or_read _ _ _ c.requires.at c.index_mut.ensures.value []) in
    let shorter = length-remove _ c.args.place c.requires.place in
    let short = ap length taken in
    let read = sym (get_or-set_same pages c.args.at page [] c.requires.at) ∙ sym (get_or_read _ _ _ within c.index.ensures []) in
    ap page_values c.drop_page.ensures.pages
    ∙ ((are_dropped pages c.args.self.now.waiting.items _ _ c.requires.whole.are c.args.at c.requires.at page (omega (arith, shorter, short)) c.drop_page.new.self.waiting.items c.drop_page.ensures.blank (omega (arith, c.drop_page.ensures.one)) (read ∙ c.is_empty.ensures.0 c.if-is_empty.true)).1
    ∙ ap (λ t. page_values (set pages c.args.at t)) taken)

pub returns-then-is_empty-clause-all : goal.returns-then-is_empty-clause-all
returns-then-is_empty-clause-all c =
    let pages = c.args.self.now.pages.items in
    let page = c.remove-slot.new.self in
    let same = length-set pages c.args.at page in
    let within : c.args.at < length (set pages c.args.at page) = omega (arith, same, c.requires.at) in
    let less = length-remove (set pages c.args.at page) c.args.at within in
    rw c.drop_page.ensures.pages (omega (arith, same, less, c.drop_page.ensures.one))

pub returns-then-is_empty-clause-whole : goal.returns-then-is_empty-clause-whole
returns-then-is_empty-clause-whole c =
    let pages = c.args.self.now.pages.items in
    let page = c.remove-slot.new.self in
    let within : c.args.at < length (set pages c.args.at page) = omega (arith, length-set pages c.args.at page, c.requires.at) in
    let taken = c.remove-slot.ensures.after ∙ ap (λ t. remove t c.args.place) (get_or_read _ _ _ c.requires.at c.index_mut.ensures.value []) in
    let shorter = length-remove _ c.args.place c.requires.place in
    let short = ap length taken in
    let read = sym (get_or-set_same pages c.args.at page [] c.requires.at) ∙ sym (get_or_read _ _ _ within c.index.ensures []) in
    record {
      are = rw (c.drop_page.ensures.pages, c.drop_page.ensures.places, c.drop_page.ensures.room)
          (are_dropped pages c.args.self.now.waiting.items _ _ c.requires.whole.are c.args.at c.requires.at page (omega (arith, shorter, short)) c.drop_page.new.self.waiting.items c.drop_page.ensures.blank (omega (arith, c.drop_page.ensures.one)) (read ∙ c.is_empty.ensures.0 c.if-is_empty.true)).0;
      starts = record {
        sums = c.drop_page.ensures.starts;
        room = omega (arith, returns-then-is_empty-clause-all c, c.requires.whole.starts.room, c.drop_page.ensures.starts_room, c.lower.ensures.room);
      };
    }

pub returns-then-is_short-clause-slots : goal.returns-then-is_short-clause-slots
returns-then-is_short-clause-slots c =
    let pages = c.args.self.now.pages.items in
    let page = c.remove-slot.new.self in
    let within : c.args.at < length (set pages c.args.at page) = omega (arith, length-set pages c.args.at page, c.requires.at) in
    let taken = c.remove-slot.ensures.after ∙ ap (λ t. remove t c.args.place) (get_or_read _ _ _ c.requires.at c.index_mut.ensures.value []) in
    let shorter = length-remove _ c.args.place c.requires.place in
    let short = ap length taken in
    let read = sym (get_or-set_same pages c.args.at page [] c.requires.at) ∙ sym (get_or_read _ _ _ within c.index.ensures []) in
    let left = ap length read in
    let some = some_left c.index.result.now c.is_empty.result c.is_empty.ensures c.if-is_empty.false in
    let test = rw c.deref.ensures.value at c.is_short.ensures.0 c.if-is_short.true in
    let all = are_joined_next pages c.args.self.now.waiting.items _ _ c.requires.whole.are c.args.at c.requires.at page (omega (arith, shorter, short)) c.join_pages.new.self.waiting.items c.join_pages.ensures.blank (omega (arith, c.join_pages.ensures.one))
    (omega (arith, length-set pages c.args.at page, test.0)) (omega (arith, some, left)) test.1 _ refl in
    ap page_values c.join_pages.ensures.pages ∙ (all.1.0 ∙ ap (λ t. page_values (set pages c.args.at t)) taken)

pub returns-then-is_short-clause-all : goal.returns-then-is_short-clause-all
returns-then-is_short-clause-all c =
    let pages = c.args.self.now.pages.items in
    let page = c.remove-slot.new.self in
    let within : c.args.at < length (set pages c.args.at page) = omega (arith, length-set pages c.args.at page, c.requires.at) in
    let taken = c.remove-slot.ensures.after ∙ ap (λ t. remove t c.args.place) (get_or_read _ _ _ c.requires.at c.index_mut.ensures.value []) in
    let shorter = length-remove _ c.args.place c.requires.place in
    let short = ap length taken in
    let read = sym (get_or-set_same pages c.args.at page [] c.requires.at) ∙ sym (get_or_read _ _ _ within c.index.ensures []) in
    let left = ap length read in
    let some = some_left c.index.result.now c.is_empty.result c.is_empty.ensures c.if-is_empty.false in
    let test = rw c.deref.ensures.value at c.is_short.ensures.0 c.if-is_short.true in
    let all = are_joined_next pages c.args.self.now.waiting.items _ _ c.requires.whole.are c.args.at c.requires.at page (omega (arith, shorter, short)) c.join_pages.new.self.waiting.items c.join_pages.ensures.blank (omega (arith, c.join_pages.ensures.one))
    (omega (arith, length-set pages c.args.at page, test.0)) (omega (arith, some, left)) test.1 _ refl in
    rw c.join_pages.ensures.pages all.1.1

pub returns-then-is_short-clause-whole : goal.returns-then-is_short-clause-whole
returns-then-is_short-clause-whole c =
    let pages = c.args.self.now.pages.items in
    let page = c.remove-slot.new.self in
    let within : c.args.at < length (set pages c.args.at page) = omega (arith, length-set pages c.args.at page, c.requires.at) in
    let taken = c.remove-slot.ensures.after ∙ ap (λ t. remove t c.args.place) (get_or_read _ _ _ c.requires.at c.index_mut.ensures.value []) in
    let shorter = length-remove _ c.args.place c.requires.place in
    let short = ap length taken in
    let read = sym (get_or-set_same pages c.args.at page [] c.requires.at) ∙ sym (get_or_read _ _ _ within c.index.ensures []) in
    let left = ap length read in
    let some = some_left c.index.result.now c.is_empty.result c.is_empty.ensures c.if-is_empty.false in
    let test = rw c.deref.ensures.value at c.is_short.ensures.0 c.if-is_short.true in
    let all = are_joined_next pages c.args.self.now.waiting.items _ _ c.requires.whole.are c.args.at c.requires.at page (omega (arith, shorter, short)) c.join_pages.new.self.waiting.items c.join_pages.ensures.blank (omega (arith, c.join_pages.ensures.one))
    (omega (arith, length-set pages c.args.at page, test.0)) (omega (arith, some, left)) test.1 _ refl in
    record {
      are = rw (c.join_pages.ensures.pages, c.join_pages.ensures.places, c.join_pages.ensures.room) all.0;
      starts = record {
        sums = c.join_pages.ensures.starts;
        room = omega (arith, returns-then-is_short-clause-all c, c.requires.whole.starts.room, c.join_pages.ensures.starts_room, c.lower.ensures.room);
      };
    }

pub returns-then-is_short_before-clause-slots : goal.returns-then-is_short_before-clause-slots
returns-then-is_short_before-clause-slots c =
    let pages = c.args.self.now.pages.items in
    let page = c.remove-slot.new.self in
    let within : c.args.at < length (set pages c.args.at page) = omega (arith, length-set pages c.args.at page, c.requires.at) in
    let taken = c.remove-slot.ensures.after ∙ ap (λ t. remove t c.args.place) (get_or_read _ _ _ c.requires.at c.index_mut.ensures.value []) in
    let shorter = length-remove _ c.args.place c.requires.place in
    let short = ap length taken in
    let read = sym (get_or-set_same pages c.args.at page [] c.requires.at) ∙ sym (get_or_read _ _ _ within c.index.ensures []) in
    let left = ap length read in
    let some = some_left c.index.result.now c.is_empty.result c.is_empty.ensures c.if-is_empty.false in
    let test = rw c.deref-else-is_short.ensures.value at c.is_short_before.ensures.0 c.if-is_short_before.true in
    let all = are_joined_before pages c.args.self.now.waiting.items _ _ c.requires.whole.are c.args.at c.requires.at page (omega (arith, shorter, short)) c.join_pages-then-is_short_before.new.self.waiting.items c.join_pages-then-is_short_before.ensures.blank (omega (arith, c.join_pages-then-is_short_before.ensures.one))
    test.0 (omega (arith, some, left)) test.1 _ refl in
    ap page_values c.join_pages-then-is_short_before.ensures.pages ∙ (all.1.0 ∙ ap (λ t. page_values (set pages c.args.at t)) taken)

pub returns-then-is_short_before-clause-all : goal.returns-then-is_short_before-clause-all
returns-then-is_short_before-clause-all c =
    let pages = c.args.self.now.pages.items in
    let page = c.remove-slot.new.self in
    let within : c.args.at < length (set pages c.args.at page) = omega (arith, length-set pages c.args.at page, c.requires.at) in
    let taken = c.remove-slot.ensures.after ∙ ap (λ t. remove t c.args.place) (get_or_read _ _ _ c.requires.at c.index_mut.ensures.value []) in
    let shorter = length-remove _ c.args.place c.requires.place in
    let short = ap length taken in
    let read = sym (get_or-set_same pages c.args.at page [] c.requires.at) ∙ sym (get_or_read _ _ _ within c.index.ensures []) in
    let left = ap length read in
    let some = some_left c.index.result.now c.is_empty.result c.is_empty.ensures c.if-is_empty.false in
    let test = rw c.deref-else-is_short.ensures.value at c.is_short_before.ensures.0 c.if-is_short_before.true in
    let all = are_joined_before pages c.args.self.now.waiting.items _ _ c.requires.whole.are c.args.at c.requires.at page (omega (arith, shorter, short)) c.join_pages-then-is_short_before.new.self.waiting.items c.join_pages-then-is_short_before.ensures.blank (omega (arith, c.join_pages-then-is_short_before.ensures.one))
    test.0 (omega (arith, some, left)) test.1 _ refl in
    rw c.join_pages-then-is_short_before.ensures.pages all.1.1

pub returns-then-is_short_before-clause-whole : goal.returns-then-is_short_before-clause-whole
returns-then-is_short_before-clause-whole c =
    let pages = c.args.self.now.pages.items in
    let page = c.remove-slot.new.self in
    let within : c.args.at < length (set pages c.args.at page) = omega (arith, length-set pages c.args.at page, c.requires.at) in
    let taken = c.remove-slot.ensures.after ∙ ap (λ t. remove t c.args.place) (get_or_read _ _ _ c.requires.at c.index_mut.ensures.value []) in
    let shorter = length-remove _ c.args.place c.requires.place in
    let short = ap length taken in
    let read = sym (get_or-set_same pages c.args.at page [] c.requires.at) ∙ sym (get_or_read _ _ _ within c.index.ensures []) in
    let left = ap length read in
    let some = some_left c.index.result.now c.is_empty.result c.is_empty.ensures c.if-is_empty.false in
    let test = rw c.deref-else-is_short.ensures.value at c.is_short_before.ensures.0 c.if-is_short_before.true in
    let all = are_joined_before pages c.args.self.now.waiting.items _ _ c.requires.whole.are c.args.at c.requires.at page (omega (arith, shorter, short)) c.join_pages-then-is_short_before.new.self.waiting.items c.join_pages-then-is_short_before.ensures.blank (omega (arith, c.join_pages-then-is_short_before.ensures.one))
    test.0 (omega (arith, some, left)) test.1 _ refl in
    record {
      are = rw (c.join_pages-then-is_short_before.ensures.pages, c.join_pages-then-is_short_before.ensures.places, c.join_pages-then-is_short_before.ensures.room) all.0;
      starts = record {
        sums = c.join_pages-then-is_short_before.ensures.starts;
        room = omega (arith, returns-then-is_short_before-clause-all c, c.requires.whole.starts.room, c.join_pages-then-is_short_before.ensures.starts_room, c.lower.ensures.room);
      };
    }

pub returns-else-is_short_before-clause-whole : goal.returns-else-is_short_before-clause-whole
returns-else-is_short_before-clause-whole c =
    let pages = c.args.self.now.pages.items in
    let page = c.remove-slot.new.self in
    let within : c.args.at < length (set pages c.args.at page) = omega (arith, length-set pages c.args.at page, c.requires.at) in
    let taken = c.remove-slot.ensures.after ∙ ap (λ t. remove t c.args.place) (get_or_read _ _ _ c.requires.at c.index_mut.ensures.value []) in
    let shorter = length-remove _ c.args.place c.requires.place in
    let short = ap length taken in
    let read = sym (get_or-set_same pages c.args.at page [] c.requires.at) ∙ sym (get_or_read _ _ _ within c.index.ensures []) in
    let left = ap length read in
    let some = some_left c.index.result.now c.is_empty.result c.is_empty.ensures c.if-is_empty.false in
    let here = rw c.deref.ensures.value at c.is_short.ensures in
    let before = rw c.deref-else-is_short.ensures.value at c.is_short_before.ensures in
    record {
      are = are_kept_now pages c.args.self.now.waiting.items _ _ c.requires.whole.are c.args.at c.requires.at page (omega (arith, shorter, short)) (omega (arith, some, left))
          (not_short _ c.is_short.result here c.if-is_short.false) (not_short _ c.is_short_before.result before c.if-is_short_before.false);
      starts = record {
        sums = c.lower.ensures.starts ∙ lowered pages c.args.self.now.starts.items c.requires.whole.starts.sums c.args.at c.requires.at c.remove-slot.new.self (omega (arith, shorter, short));
        room = omega (arith, length-set pages c.args.at c.remove-slot.new.self, c.requires.whole.starts.room, c.lower.ensures.room);
      };
    }

pub drop_page-requires-clause-starts : goal.drop_page-requires-clause-starts
drop_page-requires-clause-starts c =
    let pages = c.args.self.now.pages.items in
    let taken = c.remove-slot.ensures.after ∙ ap (λ t. remove t c.args.place) (get_or_read _ _ _ c.requires.at c.index_mut.ensures.value []) in
    let shorter = length-remove _ c.args.place c.requires.place in
    let short = ap length taken in
    c.lower.ensures.starts ∙ lowered pages c.args.self.now.starts.items c.requires.whole.starts.sums c.args.at c.requires.at c.remove-slot.new.self (omega (arith, shorter, short))

pub join_pages-requires-clause-starts : goal.join_pages-requires-clause-starts
join_pages-requires-clause-starts c =
    let pages = c.args.self.now.pages.items in
    let taken = c.remove-slot.ensures.after ∙ ap (λ t. remove t c.args.place) (get_or_read _ _ _ c.requires.at c.index_mut.ensures.value []) in
    let shorter = length-remove _ c.args.place c.requires.place in
    let short = ap length taken in
    c.lower.ensures.starts ∙ lowered pages c.args.self.now.starts.items c.requires.whole.starts.sums c.args.at c.requires.at c.remove-slot.new.self (omega (arith, shorter, short))

pub join_pages-requires-then-is_short_before-clause-starts : goal.join_pages-requires-then-is_short_before-clause-starts
join_pages-requires-then-is_short_before-clause-starts c =
    let pages = c.args.self.now.pages.items in
    let taken = c.remove-slot.ensures.after ∙ ap (λ t. remove t c.args.place) (get_or_read _ _ _ c.requires.at c.index_mut.ensures.value []) in
    let shorter = length-remove _ c.args.place c.requires.place in
    let short = ap length taken in
    c.lower.ensures.starts ∙ lowered pages c.args.self.now.starts.items c.requires.whole.starts.sums c.args.at c.requires.at c.remove-slot.new.self (omega (arith, shorter, short))

pub lower-requires-clause-from : goal.lower-requires-clause-from
lower-requires-clause-from c = let same = length-sums c.args.self.now.pages.items c.args.self.now.starts.items c.requires.whole.starts.sums in omega (arith, same, c.requires.at)

pub lower-requires-clause-some : goal.lower-requires-clause-some
lower-requires-clause-some c = lower_some c.args.self.now.pages.items c.args.self.now.starts.items c.requires.whole.starts.sums c.args.at c.requires.at (omega (arith, c.requires.place))
