use Rattle.std.proofs.Common.{rules, ◌≡◌, ◌+◌, ◌++◌, ◌<◌, ◌≤◌, [], ◌∷◌, length, get_or, set, insert, sym, ap, ◌∙◌, subst, arith}
use Rattle.std.specs.Prelude.{ℕ, List, vec_capacity}
use Rattle.std.specs.List.{AllByRecursion}
use Rattle.std.proofs.lemmas.List.{get_or_read, get_or-set_same, length-append, length-set}
use Rattle.std.proofs.lemmas.List.Edits.{length-insert}
use Rattle.page_tables.specs.Pages.{page_values, starts_of}
use Rattle.page_tables.proofs.Parted.{all_left, all_right}
use Rattle.page_tables.proofs.InPages.{page_values-split_at}
use Rattle.page_tables.proofs.PageSteps.{length-joined-set, are_inserted, are_split}
use Rattle.page_tables.proofs.InStarts.{length-sums, raise_few, start_few, raised, parted}
use Rattle.page_tables.proofs.directory.Directory.insert_into.Goals as goal

pub returns-then-len-lt-PAGE-clause-whole : goal.returns-then-len-lt-PAGE-clause-whole
returns-then-len-lt-PAGE-clause-whole c =
    let inserted = c.insert.ensures ∙ ap (λ t. insert t c.args.place c.args.slot) (get_or_read _ _ _ c.requires.at c.index_mut.ensures.value []) in
    let longer = ap length inserted ∙ length-insert _ c.args.place c.args.slot c.requires.place in
    let full = ap length (get_or_read _ _ _ c.requires.at c.index.ensures []) in
    let pages = c.args.self.now.pages.items in
    record {
      are = are_inserted c.args.self.now.pages.items c.args.self.now.waiting.items _ _ c.requires.whole.are c.args.at c.requires.at c.insert.new.self (omega (arith, longer)) (omega (arith, longer, full, c.len.ensures.value, c.if-len-lt-PAGE.true)) c.requires.room;
      starts = record {
        sums = c.raise.ensures.starts ∙ raised pages c.args.self.now.starts.items c.requires.whole.starts.sums c.args.at c.requires.at c.insert.new.self longer;
        room = omega (arith, length-set pages c.args.at c.insert.new.self, c.requires.whole.starts.room, c.raise.ensures.room);
      };
    }

-- all pages that wait are empty
pub split_insert-requires-clause-empty : goal.split_insert-requires-clause-empty
split_insert-requires-clause-empty c =
    (all_right (λ (page : List ℕ). page ≡ []) c.pop.new.self.items (c.in-Some.behind ∷ []) (subst (AllByRecursion (λ (page : List ℕ). page ≡ [])) c.in-Some.ensures.items c.requires.whole.are.blank)).0

pub returns-in-Some-clause-slots : goal.returns-in-Some-clause-slots
returns-in-Some-clause-slots c =
    let pages = c.args.self.now.pages.items in
    let items : c.insert-in-Some.new.self.items ≡ insert (set pages c.args.at c.split_insert.new.self) (c.args.at + 1) c.split_insert.new.behind = search rules in
    ap page_values items
    ∙ (page_values-split_at pages c.args.at _ _ c.requires.at
    ∙ ap (λ t. page_values (set pages c.args.at t)) (c.split_insert.ensures.slots ∙ ap (λ t. insert t c.args.place c.args.slot) (get_or_read _ _ _ c.requires.at c.index_mut-in-Some.ensures.value [])))

pub returns-in-Some-clause-whole : goal.returns-in-Some-clause-whole
returns-in-Some-clause-whole c =
    let pages = c.args.self.now.pages.items in
    let items : c.insert-in-Some.new.self.items ≡ insert (set pages c.args.at c.split_insert.new.self) (c.args.at + 1) c.split_insert.new.behind = search rules in
    let places : vec_capacity c.insert-in-Some.new.self ≡ vec_capacity c.args.self.now.pages = search rules in
    let backs : vec_capacity c.pop.new.self ≡ vec_capacity c.args.self.now.waiting = search rules in
    let inserted = c.split_insert.ensures.slots ∙ ap (λ t. insert t c.args.place c.args.slot) (get_or_read _ _ _ c.requires.at c.index_mut-in-Some.ensures.value []) in
    let longer = ap length inserted ∙ length-insert _ c.args.place c.args.slot c.requires.place in
    let both = length-append c.split_insert.new.self c.split_insert.new.behind in
    let blank = all_left (λ (page : List ℕ). page ≡ []) c.pop.new.self.items (c.in-Some.behind ∷ []) (subst (AllByRecursion (λ (page : List ℕ). page ≡ [])) c.in-Some.ensures.items c.requires.whole.are.blank) in
    let one = ap length c.in-Some.ensures.items ∙ length-append c.pop.new.self.items (c.in-Some.behind ∷ []) in
    let joined = c.split_insert.new.self ++ c.split_insert.new.behind in
    let sums : c.raise.new.starts.items ≡ starts_of (set pages c.args.at joined) = c.raise.ensures.starts ∙ raised pages c.args.self.now.starts.items c.requires.whole.starts.sums c.args.at c.requires.at joined longer in
    let here = c.split_insert.new.self in
    let same = length-set pages c.args.at here in
    let inside : c.args.at + 1 ≤ length (set pages c.args.at here) = omega (arith, same, c.requires.at) in
    let within : c.args.at < length (set pages c.args.at here) = omega (arith, inside) in
    let listed : c.insert-in-Some.new.self.items ≡ insert (set pages c.args.at here) (c.args.at + 1) c.split_insert.new.behind = search rules in
    let read = get_or_read _ _ _ within c.index-in-Some.ensures [] ∙ get_or-set_same pages c.args.at here [] c.requires.at in
    let slots = c.len-in-Some.ensures.value ∙ ap length read in
    let long = ap length listed ∙ length-insert (set pages c.args.at here) (c.args.at + 1) c.split_insert.new.behind inside in
    record {
      are = rw (items, places, backs) (are_split pages c.args.self.now.waiting.items _ _ c.requires.whole.are c.args.at c.requires.at c.pop.new.self.items c.split_insert.new.self c.split_insert.new.behind c.split_insert.ensures.here c.split_insert.ensures.behind c.split_insert.ensures.half_here c.split_insert.ensures.half_behind
          (omega (arith, longer, both)) blank (omega (arith, one)) c.requires.room);
      starts = record {
        sums = c.add_start.ensures.starts ∙ (ap (λ n. insert c.raise.new.starts.items (c.args.at + 1) (get_or c.raise.new.starts.items c.args.at 0 + n)) slots
            ∙ (parted pages c.raise.new.starts.items c.args.at here c.split_insert.new.behind c.requires.at sums ∙ ap starts_of (sym listed)));
        room = omega (arith, same, one, long, c.requires.whole.starts.room, c.raise.ensures.room, c.add_start.ensures.room);
      };
    }

pub raise-requires-clause-from : goal.raise-requires-clause-from
raise-requires-clause-from c = let same = length-sums c.args.self.now.pages.items c.args.self.now.starts.items c.requires.whole.starts.sums in omega (arith, same, c.requires.at)

pub raise-requires-clause-few : goal.raise-requires-clause-few
raise-requires-clause-few c = raise_few c.args.self.now.pages.items c.args.self.now.starts.items c.requires.whole.starts.sums c.args.at c.requires.at (omega (arith, c.requires.whole.are.fits, c.requires.whole.are.few))

pub add_start-requires-clause-at : goal.add_start-requires-clause-at
add_start-requires-clause-at c =
    let pages = c.args.self.now.pages.items in
    let both = c.split_insert.new.self ++ c.split_insert.new.behind in
    let inserted = c.split_insert.ensures.slots ∙ ap (λ t. insert t c.args.place c.args.slot) (get_or_read _ _ _ c.requires.at c.index_mut-in-Some.ensures.value []) in
    let longer = ap length inserted ∙ length-insert _ c.args.place c.args.slot c.requires.place in
    let sums : c.raise.new.starts.items ≡ starts_of (set pages c.args.at both) = c.raise.ensures.starts ∙ raised pages c.args.self.now.starts.items c.requires.whole.starts.sums c.args.at c.requires.at both longer in
    let same = length-set pages c.args.at both in
    let long = length-sums (set pages c.args.at both) c.raise.new.starts.items sums in
    omega (arith, same, long, c.requires.at)

pub add_start-requires-clause-few : goal.add_start-requires-clause-few
add_start-requires-clause-few c =
    let pages = c.args.self.now.pages.items in
    let both = c.split_insert.new.self ++ c.split_insert.new.behind in
    let inserted = c.split_insert.ensures.slots ∙ ap (λ t. insert t c.args.place c.args.slot) (get_or_read _ _ _ c.requires.at c.index_mut-in-Some.ensures.value []) in
    let longer = ap length inserted ∙ length-insert _ c.args.place c.args.slot c.requires.place in
    let sums : c.raise.new.starts.items ≡ starts_of (set pages c.args.at both) = c.raise.ensures.starts ∙ raised pages c.args.self.now.starts.items c.requires.whole.starts.sums c.args.at c.requires.at both longer in
    let same = length-set pages c.args.at both in
    let count = length-joined-set pages c.args.at both c.requires.at in
    let few = start_few (set pages c.args.at both) c.raise.new.starts.items sums c.args.at (omega (arith, same, c.requires.at)) (omega (arith, count, longer, c.requires.whole.are.fits, c.requires.whole.are.few)) in
    omega (arith, few, c.len-in-Some.ensures.value, c.len-in-Some.ensures.most)

pub add_start-requires-clause-room : goal.add_start-requires-clause-room
add_start-requires-clause-room c =
    let pages = c.args.self.now.pages.items in
    let both = c.split_insert.new.self ++ c.split_insert.new.behind in
    let inserted = c.split_insert.ensures.slots ∙ ap (λ t. insert t c.args.place c.args.slot) (get_or_read _ _ _ c.requires.at c.index_mut-in-Some.ensures.value []) in
    let longer = ap length inserted ∙ length-insert _ c.args.place c.args.slot c.requires.place in
    let sums : c.raise.new.starts.items ≡ starts_of (set pages c.args.at both) = c.raise.ensures.starts ∙ raised pages c.args.self.now.starts.items c.requires.whole.starts.sums c.args.at c.requires.at both longer in
    let same = length-set pages c.args.at both in
    let long = length-sums (set pages c.args.at both) c.raise.new.starts.items sums in
    omega (arith, same, long, c.requires.waits, c.requires.whole.starts.room, c.raise.ensures.room)
