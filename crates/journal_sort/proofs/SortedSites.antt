-- A site whose journal is sorted is the site before.
use Rattle.std.proofs.Common.{◌≡◌, ℕ, ◌<◌, ◌≤◌, List, [], ◌∷◌, ◌++◌, reverse, Bool, true, false, cond, max, Some, None, refl, sym, ap, ◌∙◌, subst, arith}
use Rattle.std.specs.Prelude.{◌&&◌, nat_lt, Option, flat_map, filter_map}
use Rattle.std.specs.List.{AllByRecursion}
use mathlib.Core.List.{append_assoc}
use Rattle.std.proofs.lemmas.Grind.{reverse_onto}
use Rattle.std.proofs.lemmas.List.Sorted.{IsPermutation-sym, list_any-IsPermutation, sum_by-IsPermutation}
use Rattle.rep_lists.specs.Rising.{IsRising}
use Rattle.origin_marks.proofs.Counts.{cmp_less}
use Rattle.rep_values.specs.declared.name.SiteName.{SiteName}
use Rattle.rep_schema.specs.declared.schema.Schema.{Schema}
use Rattle.rep_schema.specs.Tables.{Rows, AreTables}
use Rattle.rep_calls.specs.declared.call.Txn.{Txn}
use Rattle.conflict_detect.specs.Fits.{TxnFits}
use Rattle.unique_resolve.proofs.Settlements.{AreCounters-first}
use Rattle.txn_effects.specs.Contents.{Content, IsContent}
use Rattle.txn_effects.specs.declared.local.Here.{Here}
use Rattle.rep_laws.specs.Commuting.{IsSound}
use Rattle.rep_laws.proofs.ContentAfter.{IsContent-content_after}
use Rattle.rep_laws.proofs.TransactionTouches.{transactions_touch}
use Rattle.rep_laws.proofs.EitherOrder.{commute_by_tokens}
use Rattle.error_queue.specs.declared.entry.ErrorEntry.{ErrorEntry}
use Rattle.site_state.specs.declared.entry.Entry.{Entry}
use Rattle.site_state.specs.declared.entry.Entry.TheVariants.{Local, Done, Error, Executed, Dropped, Refreshed}
use Rattle.site_state.specs.declared.arrival.Arrival.{Arrival}
use Rattle.site_state.specs.State.{SenderState, SiteState}
use Rattle.rep_schema.specs.Sites.{is_master_site}
use Rattle.site_state.specs.Journal.{is_position, finishes, finished, low_water, error_at}
use Rattle.site_state.specs.Contents.{content_with, journal_content}
use Rattle.site_state.specs.Streams.{went_onward, queue_after, shares}
use Rattle.site_state.specs.Pasts.{greatest_finished, seen_of, with_seen, past_at, pasts_after}
use Rattle.site_state.specs.Fits.{EntryFits, SiteFits}
use Rattle.site_state.proofs.LowWater.{low_water-below, low_water-greatest}
use Rattle.site_state.proofs.Stepping.{is_position-true}
use Rattle.journal_sort.specs.Sorting.{finish_position, IsFinishOf, entries_from, entries_before, by_finish_position, StandsFirst, AreInOrder, CanBeSorted, IsSorted, StaysWithMasters, IsOneSite, SortingChangesNoMore}
use Rattle.journal_sort.proofs.Selecting.{Ordered, Has, AllByRecursion-both, AllByRecursion-weaker, has_itself, Rises, Acts, after, one_end}
use Rattle.journal_sort.proofs.SortedJournals.{AllByRecursion-IsPermutation, all_front, all_reversed, all_rest, journal_parts, sorted_parts, IsPermutation-sorted, AllByRecursion-sorted}

-- ---- entries over a journal, one after the other

-- entries over a journal: the oldest goes on first
pub reversed_over : (e : Entry) (es journal : List Entry) → reverse (e ∷ es) ++ journal ≡ reverse es ++ e ∷ journal
reversed_over e es journal = ap (λ l. l ++ journal) (reverse_onto es e []) ∙ append_assoc (reverse es) (e ∷ []) journal

-- the error that stands at a position after one entry more
abbrev error_with : Entry → SiteName → ℕ → Option ErrorEntry → Option ErrorEntry
error_with (Local number txn) origin position before = before
error_with (Done o p onward txn) origin position before = before
error_with (Error o p call error txn) origin position before = cond (is_position origin position o p)
    (Some (record { origin = o; position = p; call = call; error = error; txn = txn })) before
error_with (Executed o p onward txn) origin position before = cond (is_position origin position o p) None before
error_with (Dropped o p) origin position before = cond (is_position origin position o p) None before
error_with (Refreshed moment) origin position before = before

-- what is told of a journal: tables and counters, and the errors that stand
record Told : Type 0 where
  content : Content
  errors : SiteName → ℕ → Option ErrorEntry

module _ (schema : Schema) (site : SiteName) (base : List Rows) where
  abbrev told : List Entry → Told
  told journal = record { content = journal_content schema site base journal; errors = λ o p. error_at o p journal }

  abbrev told_with : Entry → Told → Told
  told_with e before = record { content = content_with schema site base e before.content; errors = λ o p. error_with e o p (before.errors o p) }

  told_one : (e : Entry) (journal : List Entry) → told (e ∷ journal) ≡ told_with e (told journal)
  told_one (Local number txn) journal = refl
  told_one (Done o p onward txn) journal = refl
  told_one (Error o p call error txn) journal = refl
  told_one (Executed o p onward txn) journal = refl
  told_one (Dropped o p) journal = refl
  told_one (Refreshed moment) journal = refl

  -- ---- of two finishes that share no token the later one may go first

  module _ (sound : IsSound schema) (origin : SiteName) where
    abbrev IsFine : Entry → Type 0
    IsFine e = IsFinishOf origin e × EntryFits schema e

    abbrev IsGood : Told → Type 0
    IsGood t = IsContent schema t.content

    keeps_good : (e : Entry) → IsFine e → (t : Told) → IsGood t → IsGood (told_with e t)
    keeps_good (Local number txn) fine t good = absurd fine.0
    keeps_good (Done o p onward txn) fine t good = IsContent-content_after schema sound o txn fine.1 t.content good
    keeps_good (Error o p call error txn) fine t good = good
    keeps_good (Executed o p onward txn) fine t good = absurd fine.0
    keeps_good (Dropped o p) fine t good = absurd fine.0
    keeps_good (Refreshed moment) fine t good = absurd fine.0

    unshared : (txn other : Txn) (p q : ℕ) → q < p → (shares schema txn other ≡ true → p < q) → (b : Bool) → shares schema txn other ≡ b → b ≡ false
    unshared txn other p q less stands false is = refl
    unshared txn other p q less stands true is = absurd (omega (arith, less, stands is))

    errors_either : (o other : SiteName) (p q : ℕ) → q < p → (first second : ErrorEntry) (sender : SiteName) (position : ℕ) (before : Option ErrorEntry)
        → cond (is_position sender position other q) (Some second) (cond (is_position sender position o p) (Some first) before)
        ≡ cond (is_position sender position o p) (Some first) (cond (is_position sender position other q) (Some second) before)
    errors_either o other p q less first second sender position before = go (is_position sender position o p) refl (is_position sender position other q) refl
      where
        go : (c : Bool) → is_position sender position o p ≡ c → (d : Bool) → is_position sender position other q ≡ d
            → cond d (Some second) (cond c (Some first) before) ≡ cond c (Some first) (cond d (Some second) before)
        go true is true other_is = absurd (omega (arith, less, (is_position-true sender o position p is).1, (is_position-true sender other position q other_is).1))
        go true is false other_is = refl
        go false is true other_is = refl
        go false is false other_is = refl

    either_first : (e f : Entry) → IsFine e → IsFine f → StandsFirst schema e f → finish_position f < finish_position e → (t : Told) → IsGood t
        → told_with f (told_with e t) ≡ told_with e (told_with f t)
    either_first (Local number txn) f fine fine' stands less t good = absurd fine.0
    either_first (Executed o p onward txn) f fine fine' stands less t good = absurd fine.0
    either_first (Dropped o p) f fine fine' stands less t good = absurd fine.0
    either_first (Refreshed moment) f fine fine' stands less t good = absurd fine.0
    either_first (Done o p onward txn) (Local number other) fine fine' stands less t good = absurd fine'.0
    either_first (Done o p onward txn) (Executed o' q onward' other) fine fine' stands less t good = absurd fine'.0
    either_first (Done o p onward txn) (Dropped o' q) fine fine' stands less t good = absurd fine'.0
    either_first (Done o p onward txn) (Refreshed moment) fine fine' stands less t good = absurd fine'.0
    either_first (Done o p onward txn) (Done o' q onward' other) fine fine' stands less t good =
        let commute = commute_by_tokens transactions_touch schema o o' txn other t.content sound fine.1 fine'.1 good (unshared txn other p q less stands _ refl) in
        λ i. record { content = commute.same i; errors = t.errors }
    either_first (Done o p onward txn) (Error o' q call error other) fine fine' stands less t good = refl
    either_first (Error o p call error txn) (Local number other) fine fine' stands less t good = absurd fine'.0
    either_first (Error o p call error txn) (Executed o' q onward other) fine fine' stands less t good = absurd fine'.0
    either_first (Error o p call error txn) (Dropped o' q) fine fine' stands less t good = absurd fine'.0
    either_first (Error o p call error txn) (Refreshed moment) fine fine' stands less t good = absurd fine'.0
    either_first (Error o p call error txn) (Done o' q onward other) fine fine' stands less t good = refl
    either_first (Error o p call error txn) (Error o' q call' error' other) fine fine' stands less t good = λ i. record {
      content = t.content;
      errors = λ sender position. errors_either o o' p q less (record { origin = o; position = p; call = call; error = error; txn = txn })
          (record { origin = o'; position = q; call = call'; error = error'; txn = other }) sender position (t.errors sender position) i;
    }

    abbrev entries_told : Acts Entry Told
    entries_told = record {
      number = finish_position;
      act = told_with;
      Fine = IsFine;
      Good = IsGood;
      Stands = StandsFirst schema;
      keeps = keeps_good;
      either = either_first;
    }

    told_over : (es journal : List Entry) → told (reverse es ++ journal) ≡ after entries_told es (told journal)
    told_over [] journal = refl
    told_over (e ∷ es) journal = ap told (reversed_over e es journal) ∙ told_over es (e ∷ journal) ∙ ap (after entries_told es) (told_one e journal)

  -- ---- every journal of what fits leaves tables and counters of the schema

  module _ (sound : IsSound schema) (are : AreTables schema base) where
    first_is : IsContent schema (journal_content schema site base [])
    first_is = record { tables = are; counters = AreCounters-first schema }

    content_with-is : (e : Entry) → EntryFits schema e → (content : Content) → IsContent schema content → IsContent schema (content_with schema site base e content)
    content_with-is (Local number txn) fits content is = IsContent-content_after schema sound site txn fits content is
    content_with-is (Done o p onward txn) fits content is = IsContent-content_after schema sound o txn fits content is
    content_with-is (Error o p call error txn) fits content is = is
    content_with-is (Executed o p onward txn) fits content is = IsContent-content_after schema sound o txn fits content is
    content_with-is (Dropped o p) fits content is = is
    content_with-is (Refreshed moment) fits content is = first_is

    pub IsContent-journal_content : (journal : List Entry) → AllByRecursion (EntryFits schema) journal → IsContent schema (journal_content schema site base journal)
    IsContent-journal_content [] fit = first_is
    IsContent-journal_content (e ∷ es) fit = content_with-is e fit.0 (journal_content schema site base es) (IsContent-journal_content es fit.1)

-- ---- entries in order

ordered : (schema : Schema) (es : List Entry) → AreInOrder schema es → Ordered (StandsFirst schema) es
ordered schema [] order = tt
ordered schema (e ∷ es) order = (order.0, ordered schema es order.1)

-- entries that rise by position have positions that rise
pub rises : (es : List Entry) → IsRising by_finish_position es → Rises finish_position es
rises [] rising = tt
rises (e ∷ es) rising = (AllByRecursion-weaker _ _ (λ (f : Entry). cmp_less (finish_position e) (finish_position f)) es rising.0, rises es rising.1)

-- ---- what came from a master is queued nowhere

stays_here : (here : Here) → went_onward here 0 ≡ false
stays_here here = go here.is_master
  where
    go : (b : Bool) → (b && false) ≡ false
    go true = refl
    go false = refl

module _ (schema : Schema) (here : Here) (base : List Rows) (senders : List SenderState) (origin : SiteName) (master : is_master_site schema origin ≡ true) where
  abbrev IsQuiet : Entry → Type 0
  IsQuiet e = IsFinishOf origin e × StaysWithMasters schema e

  none_onward : (o : SiteName) (onward : ℕ) → o ≡ origin → (is_master_site schema o ≡ true → onward ≡ 0) → went_onward here onward ≡ false
  none_onward o onward same stays = ap (went_onward here) (stays (ap (is_master_site schema) same ∙ master)) ∙ stays_here here

  queue_one : (e : Entry) (es : List Entry) → IsQuiet e → queue_after schema here base (e ∷ es) ≡ queue_after schema here base es
  queue_one (Local number txn) es quiet = absurd quiet.0
  queue_one (Done o p onward txn) es quiet = rw (none_onward o onward quiet.0 quiet.1) refl
  queue_one (Error o p call error txn) es quiet = refl
  queue_one (Executed o p onward txn) es quiet = absurd quiet.0
  queue_one (Dropped o p) es quiet = absurd quiet.0
  queue_one (Refreshed moment) es quiet = absurd quiet.0

  pasts_one : (e : Entry) (es : List Entry) → IsQuiet e → pasts_after schema here senders (e ∷ es) ≡ pasts_after schema here senders es
  pasts_one (Local number txn) es quiet = absurd quiet.0
  pasts_one (Done o p onward txn) es quiet = rw (none_onward o onward quiet.0 quiet.1) refl
  pasts_one (Error o p call error txn) es quiet = refl
  pasts_one (Executed o p onward txn) es quiet = absurd quiet.0
  pasts_one (Dropped o p) es quiet = absurd quiet.0
  pasts_one (Refreshed moment) es quiet = absurd quiet.0

  queue_over : (es journal : List Entry) → AllByRecursion IsQuiet es → queue_after schema here base (reverse es ++ journal) ≡ queue_after schema here base journal
  queue_over [] journal quiet = refl
  queue_over (e ∷ es) journal quiet = ap (queue_after schema here base) (reversed_over e es journal) ∙ queue_over es (e ∷ journal) quiet.1 ∙ queue_one e journal quiet.0

  pasts_over : (es journal : List Entry) → AllByRecursion IsQuiet es → pasts_after schema here senders (reverse es ++ journal) ≡ pasts_after schema here senders journal
  pasts_over [] journal quiet = refl
  pasts_over (e ∷ es) journal quiet = ap (pasts_after schema here senders) (reversed_over e es journal) ∙ pasts_over es (e ∷ journal) quiet.1 ∙ pasts_one e journal quiet.0

-- ---- what is computed from journals with the same finished positions

module _ (es ds : List Entry) (alike : (o : SiteName) (p : ℕ) → finished o es p ≡ finished o ds p) where
  greatest_finished-alike : (origin : SiteName) (arrived : List Arrival) → greatest_finished origin es arrived ≡ greatest_finished origin ds arrived
  greatest_finished-alike origin [] = refl
  greatest_finished-alike origin (a ∷ arrived) = rw (alike origin a.position, greatest_finished-alike origin arrived) refl

  past_at-alike : (schema : Schema) (ss : List SenderState) → past_at schema es ss ≡ past_at schema ds ss
  past_at-alike schema [] = refl
  past_at-alike schema (s ∷ ss) =
      ap (λ n. with_seen (is_master_site schema s.origin && nat_lt 0 n) s.origin n (past_at schema es ss)) seen
      ∙ ap (λ past. with_seen (is_master_site schema s.origin && nat_lt 0 (seen_of ds s)) s.origin (seen_of ds s) past) (past_at-alike schema ss)
    where
      seen : seen_of es s ≡ seen_of ds s
      seen = ap (max s.first) (greatest_finished-alike s.origin s.arrived)

low_at_most : (origin : SiteName) (es ds : List Entry) → ((p : ℕ) → finished origin es p ≡ finished origin ds p) → low_water origin es ≤ low_water origin ds
low_at_most origin es ds alike = low_water-greatest origin ds (low_water origin es) (λ p from_one up_to. sym (alike p) ∙ low_water-below origin es p from_one up_to)

low_alike : (origin : SiteName) (es ds : List Entry) → ((p : ℕ) → finished origin es p ≡ finished origin ds p) → low_water origin es ≡ low_water origin ds
low_alike origin es ds alike = omega (arith, low_at_most origin es ds alike, low_at_most origin ds es (λ p. sym (alike p)))

-- ---- the law

module _ (place : ℕ) (x : SiteState) (journal : List Entry) (sorted : IsSorted place x.journal journal) where
  abbrev older : List Entry
  older = reverse (entries_before place x.journal)

  abbrev unsorted : List Entry
  unsorted = entries_from place x.journal

  abbrev risen : List Entry
  risen = entries_from place journal

  was : x.journal ≡ reverse unsorted ++ older
  was = journal_parts place x.journal

  becomes : journal ≡ reverse risen ++ older
  becomes = sorted_parts place x.journal journal sorted

  all_from : (P : Entry → Type 0) → AllByRecursion P x.journal → AllByRecursion P unsorted
  all_from P all = all_reversed P unsorted (all_front P (reverse unsorted) older (subst (AllByRecursion P) was all))

  all_before : (P : Entry → Type 0) → AllByRecursion P x.journal → AllByRecursion P older
  all_before P all = all_rest P (reverse unsorted) older (subst (AllByRecursion P) was all)

  all_risen : (P : Entry → Type 0) → AllByRecursion P unsorted → AllByRecursion P risen
  all_risen P = AllByRecursion-IsPermutation P unsorted risen (IsPermutation-sym _ _ sorted.entries)

  finished_same : (o : SiteName) (p : ℕ) → finished o x.journal p ≡ finished o journal p
  finished_same o p = list_any-IsPermutation (finishes o p) x.journal journal (IsPermutation-sorted place x.journal journal sorted)

told-sorted : (origin : SiteName) (place : ℕ) (x : SiteState) (journal : List Entry) → IsSound x.schema
    → IsContent x.schema (journal_content x.schema x.here.site x.base (reverse (entries_before place x.journal))) → AllByRecursion (EntryFits x.schema) x.journal
    → CanBeSorted x.schema origin place x.journal → IsSorted place x.journal journal
    → told x.schema x.here.site x.base x.journal ≡ told x.schema x.here.site x.base journal
told-sorted origin place x journal sound is fit can sorted =
    ap telling (was place x journal sorted)
    ∙ told_over x.schema x.here.site x.base sound origin from_there before
    ∙ one_end (entries_told x.schema x.here.site x.base sound origin) in_turn from_there (telling before) is
    (AllByRecursion-both _ _ from_there can.entries (all_from place x journal sorted (EntryFits x.schema) fit))
    (ordered x.schema from_there can.order) (rises in_turn sorted.rising)
    (all_risen place x journal sorted (Has from_there) (has_itself from_there))
    (λ f. sum_by-IsPermutation f in_turn from_there sorted.entries)
    ∙ sym (told_over x.schema x.here.site x.base sound origin in_turn before)
    ∙ ap telling (sym (becomes place x journal sorted))
  where
    telling : List Entry → Told
    telling es = told x.schema x.here.site x.base es

    before : List Entry
    before = reverse (entries_before place x.journal)

    from_there : List Entry
    from_there = entries_from place x.journal

    in_turn : List Entry
    in_turn = entries_from place journal

-- the law where it is known that the entries before the place leave tables and counters of the schema
pub one_site_where_content_before : (origin : SiteName) (place : ℕ) (x : SiteState) (journal : List Entry) → IsSound x.schema
    → IsContent x.schema (journal_content x.schema x.here.site x.base (reverse (entries_before place x.journal)))
    → AllByRecursion (EntryFits x.schema) x.journal → AllByRecursion (StaysWithMasters x.schema) x.journal
    → CanBeSorted x.schema origin place x.journal → IsSorted place x.journal journal
    → IsOneSite x (record x { journal = journal })
one_site_where_content_before origin place x journal sound is fit stay can sorted = record {
  rest = refl;
  content = ap (λ (t : Told). t.content) view;
  queue = ap (queue_after x.schema x.here x.base) (was place x journal sorted)
      ∙ queue_over x.schema x.here x.base x.senders origin can.master from_there before quiet
      ∙ sym (queue_over x.schema x.here x.base x.senders origin can.master in_turn before quiet_in_turn)
      ∙ ap (queue_after x.schema x.here x.base) (sym (becomes place x journal sorted));
  pasts = ap (pasts_after x.schema x.here x.senders) (was place x journal sorted)
      ∙ pasts_over x.schema x.here x.base x.senders origin can.master from_there before quiet
      ∙ sym (pasts_over x.schema x.here x.base x.senders origin can.master in_turn before quiet_in_turn)
      ∙ ap (pasts_after x.schema x.here x.senders) (sym (becomes place x journal sorted));
  seen = past_at-alike x.journal journal alike x.schema x.senders;
  finished_alike = alike;
  low = λ sender. low_alike sender x.journal journal (alike sender);
  standing = λ sender position. ap (λ (t : Told). t.errors sender position) view;
  errors = ap (λ (t : Told). flat_map (λ (s : SenderState). filter_map (λ (a : Arrival). t.errors s.origin a.position) s.arrived) x.senders) view;
}
  where
    before : List Entry
    before = reverse (entries_before place x.journal)

    from_there : List Entry
    from_there = entries_from place x.journal

    in_turn : List Entry
    in_turn = entries_from place journal

    alike : (o : SiteName) (p : ℕ) → finished o x.journal p ≡ finished o journal p
    alike = finished_same place x journal sorted

    view : told x.schema x.here.site x.base x.journal ≡ told x.schema x.here.site x.base journal
    view = told-sorted origin place x journal sound is fit can sorted

    quiet : AllByRecursion (IsQuiet x.schema x.here x.base x.senders origin can.master) (entries_from place x.journal)
    quiet = AllByRecursion-both _ _ (entries_from place x.journal) can.entries (all_from place x journal sorted (StaysWithMasters x.schema) stay)

    quiet_in_turn : AllByRecursion (IsQuiet x.schema x.here x.base x.senders origin can.master) (entries_from place journal)
    quiet_in_turn = all_risen place x journal sorted _ quiet

pub sorting_changes_no_more : SortingChangesNoMore
sorting_changes_no_more origin place x journal sound fits are stay can sorted =
    one_site_where_content_before origin place x journal sound
    (IsContent-journal_content x.schema x.here.site x.base sound are (reverse (entries_before place x.journal)) (all_before place x journal sorted (EntryFits x.schema) fits.journal))
    fits.journal stay can sorted

-- what fits at a site still fits where its journal is sorted
pub SiteFits-sorted : (place : ℕ) (x : SiteState) (journal : List Entry) → SiteFits x → IsSorted place x.journal journal → IsOneSite x (record x { journal = journal })
    → SiteFits (record x { journal = journal })
SiteFits-sorted place x journal fits sorted one = record {
  keyed = fits.keyed;
  content = subst (IsContent x.schema) one.content fits.content;
  queued = subst (AllByRecursion (TxnFits x.schema)) one.queue fits.queued;
  senders = fits.senders;
  journal = AllByRecursion-sorted (EntryFits x.schema) place x.journal journal sorted fits.journal;
  within = fits.within;
}
