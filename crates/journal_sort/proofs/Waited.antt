-- Each position that a site finishes has waited for what it depends on, so the earlier of two that share a token comes first.
use Rattle.std.proofs.Common.{◌≡◌, ◌≢◌, ℕ, ◌<◌, ◌≤◌, ◌==◌, List, [], ◌∷◌, ◌++◌, reverse, Bool, true, false, refl, sym, ap, ◌∙◌, subst, arith}
use Rattle.std.specs.Prelude.{◌&&◌, ◌||◌}
use Rattle.std.specs.List.{AllByRecursion}
use Rattle.std.proofs.lemmas.Bool.Decides.{nat_tests}
use Rattle.std.proofs.lemmas.List.Sorted.{list_any-IsPermutation}
use Rattle.rep_values.specs.declared.name.SiteName.{SiteName}
use Rattle.rep_values.specs.SiteNames.{is_same_site}
use Rattle.site_state.specs.declared.entry.Entry.{Entry}
use Rattle.site_state.specs.declared.entry.Entry.TheVariants.{Local, Done, Error, Executed, Dropped, Refreshed}
use Rattle.site_state.specs.State.{SenderState, SiteState}
use Rattle.site_state.specs.Journal.{finishes, finished, is_position}
use Rattle.site_state.proofs.LowWater.{finished-append}
use Rattle.site_state.proofs.Stepping.{is_position-true}
use Rattle.journal_sort.specs.Sorting.{finish_position, entries_from, entries_before, IsSorted}
use Rattle.site_state.specs.Waited.{EachBehind, HasWaited, HaveWaited, ComesBehind, FinishesEarlierFirst}
use Rattle.journal_sort.proofs.Selecting.{AllByRecursion-weaker, Rises}
use Rattle.journal_sort.proofs.SortedJournals.{all_front, all_reversed, journal_parts, sorted_parts, IsPermutation-sorted, AllByRecursion-sorted}
use Rattle.journal_sort.proofs.SortedSites.{reversed_over, rises}

-- what an entry waits for is finished in a journal
abbrev IsWithin : List SenderState → List Entry → Entry → Type 0
IsWithin senders whole e = HasWaited senders e whole

-- ---- entries and those before them

each_weaker : (P Q : Entry → List Entry → Type 0) → ((e : Entry) (before : List Entry) → P e before → Q e before) → (journal : List Entry) → EachBehind P journal → EachBehind Q journal
each_weaker P Q weaker [] each = tt
each_weaker P Q weaker (e ∷ es) each = (weaker e es each.0, each_weaker P Q weaker es each.1)

each_rest : (P : Entry → List Entry → Type 0) (es journal : List Entry) → EachBehind P (es ++ journal) → EachBehind P journal
each_rest P [] journal each = each
each_rest P (e ∷ es) journal each = each_rest P es journal each.1

-- ---- the order

-- where each position has waited, the earlier of two that share a token comes first
pub earlier_first : (x : SiteState) → HaveWaited x.senders x.journal → FinishesEarlierFirst x
earlier_first x waited origin numbered = each_weaker (HasWaited x.senders) (ComesBehind x origin) behind x.journal waited
  where
    behind : (e : Entry) (before : List Entry) → HasWaited x.senders e before → ComesBehind x origin e before
    behind e before has p q a b here there_p there_q from_one less shared = has origin p q b here there_q from_one less (numbered p q a b there_p there_q less shared)

-- ---- what a site journals

-- ---- what arrives

-- ---- a sorted journal

is_position-above : (origin o : SiteName) (p q : ℕ) → p < q → is_position origin p o q ≡ false
is_position-above origin o p q less = go (is_same_site o origin) (q == p) off
  where
    off : (q == p) ≡ false
    off = grind (arith, nat_tests, less)

    go : (b c : Bool) → c ≡ false → (b && c) ≡ false
    go true c is = is
    go false c is = refl

-- an entry of a higher position doesn't finish this one
finishes-above : (origin : SiteName) (p : ℕ) (e : Entry) → p < finish_position e → finishes origin p e ≡ false
finishes-above origin p (Local number txn) less = refl
finishes-above origin p (Done o q onward txn) less = is_position-above origin o p q less
finishes-above origin p (Error o q call error txn) less = is_position-above origin o p q less
finishes-above origin p (Executed o q onward txn) less = refl
finishes-above origin p (Dropped o q) less = refl
finishes-above origin p (Refreshed moment) less = refl

-- nor do entries of higher positions over a journal
finished-above : (origin : SiteName) (p : ℕ) (es journal : List Entry) → AllByRecursion (λ (e : Entry). p < finish_position e) es → finished origin (reverse es ++ journal) p ≡ finished origin journal p
finished-above origin p [] journal above = refl
finished-above origin p (e ∷ es) journal above =
    ap (λ l. finished origin l p) (reversed_over e es journal) ∙ finished-above origin p es (e ∷ journal) above.1 ∙ ap (λ (b : Bool). b || finished origin journal p) (finishes-above origin p e above.0)

-- the position that an entry finishes is its own
position_of-finishes : (origin : SiteName) (q : ℕ) (e : Entry) → finishes origin q e ≡ true → finish_position e ≡ q
position_of-finishes origin q (Local number txn) is = absurd (cc is)
position_of-finishes origin q (Done o position onward txn) is = (is_position-true origin o q position is).1
position_of-finishes origin q (Error o position call error txn) is = (is_position-true origin o q position is).1
position_of-finishes origin q (Executed o position onward txn) is = absurd (cc is)
position_of-finishes origin q (Dropped o position) is = absurd (cc is)
position_of-finishes origin q (Refreshed moment) is = absurd (cc is)

-- what was finished before an entry is finished in a journal that finishes all that was
waited_within : (senders : List SenderState) (whole journal : List Entry) → ((origin : SiteName) (p : ℕ) → finished origin journal p ≡ true → finished origin whole p ≡ true) → HaveWaited senders journal
    → AllByRecursion (IsWithin senders whole) journal
waited_within senders whole [] more waited = tt
waited_within senders whole (e ∷ es) more waited = (
  λ origin p q a here there from_one less up_to. more origin p (older origin p (waited.0 origin p q a here there from_one less up_to)),
  waited_within senders whole es (λ origin p is. more origin p (older origin p is)) waited.1,
)
  where
    older : (origin : SiteName) (p : ℕ) → finished origin es p ≡ true → finished origin (e ∷ es) p ≡ true
    older origin p is = finished-append origin (e ∷ []) es p is

-- entries in rising order of position have waited over a journal, where what they wait for is finished at all
waited_over : (senders : List SenderState) (es journal : List Entry) → HaveWaited senders journal → Rises finish_position es → AllByRecursion (IsWithin senders (reverse es ++ journal)) es
    → HaveWaited senders (reverse es ++ journal)
waited_over senders [] journal waited rising has = waited
waited_over senders (e ∷ es) journal waited rising has =
    subst (HaveWaited senders) (sym (reversed_over e es journal))
    (waited_over senders es (e ∷ journal) (own, waited) rising.1 (subst (λ l. AllByRecursion (IsWithin senders l) es) (reversed_over e es journal) has.1))
  where
    above : (p q : ℕ) → p < q → finish_position e ≡ q → AllByRecursion (λ (f : Entry). p < finish_position f) (e ∷ es)
    above p q less at = (
      omega (arith, less, at),
      AllByRecursion-weaker (λ (f : Entry). finish_position e < finish_position f) (λ (f : Entry). p < finish_position f) (λ f higher. omega (arith, less, at, higher)) es rising.0,
    )

    own : HasWaited senders e journal
    own origin p q a here there from_one less up_to =
        sym (finished-above origin p (e ∷ es) journal (above p q less (position_of-finishes origin q e here))) ∙ has.0 origin p q a here there from_one less up_to

-- a sorted journal's positions have waited too
pub HaveWaited-sorted : (senders : List SenderState) (place : ℕ) (old new : List Entry) → IsSorted place old new → HaveWaited senders old → HaveWaited senders new
HaveWaited-sorted senders place old new sorted waited = subst (HaveWaited senders) (sym becomes) (waited_over senders risen older before (rises risen sorted.rising) has_risen)
  where
    older : List Entry
    older = reverse (entries_before place old)

    risen : List Entry
    risen = entries_from place new

    becomes : new ≡ reverse risen ++ older
    becomes = sorted_parts place old new sorted

    before : HaveWaited senders older
    before = each_rest (HasWaited senders) (reverse (entries_from place old)) older (subst (HaveWaited senders) (journal_parts place old) waited)

    alike : (origin : SiteName) (p : ℕ) → finished origin old p ≡ finished origin new p
    alike origin p = list_any-IsPermutation (finishes origin p) old new (IsPermutation-sorted place old new sorted)

    has_new : AllByRecursion (IsWithin senders new) new
    has_new = AllByRecursion-sorted (IsWithin senders new) place old new sorted (waited_within senders new old (λ origin p is. sym (alike origin p) ∙ is) waited)

    has_risen : AllByRecursion (IsWithin senders (reverse risen ++ older)) risen
    has_risen = all_reversed (IsWithin senders (reverse risen ++ older)) risen
        (all_front (IsWithin senders (reverse risen ++ older)) (reverse risen) older (subst (λ l. AllByRecursion (IsWithin senders l) l) becomes has_new))
