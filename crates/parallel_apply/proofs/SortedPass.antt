-- What a crew applied, put into rising order of position, is the pass of one applier.
use Rattle.std.proofs.Common.{◌≡◌, ℕ, ◌+◌, ◌<◌, ◌≤◌, List, [], ◌∷◌, ◌++◌, take, drop, reverse, map, length, Bool, true, false, cond, refl, sym, ap, ◌∙◌, subst, arith, inl, inr, length-append}
use Rattle.std.specs.List.{AllByRecursion}
use Rattle.std.specs.List.Sorted.{IsPermutation}
use Rattle.std.specs.Cmp.{nat_cmp_is}
use Rattle.std.specs.Ordering.{nat_cmp}
use Rattle.std.specs.declared.cmp.Ordering.TheVariants.{Less}
use Rattle.std.proofs.lemmas.Bool.Decides.{nat_tests}
use Rattle.std.proofs.lemmas.List.{reverse-append, length-reverse}
use Rattle.std.proofs.lemmas.List.Sorted.{IsPermutation-sym, IsPermutation-trans, IsPermutation-reverse}
use Rattle.std.proofs.Math.Seq.{take-append_seam, drop-append_seam}
use Rattle.rep_lists.specs.Rising.{IsRising}
use Rattle.rep_values.specs.declared.name.SiteName.{SiteName}
use Rattle.site_state.specs.declared.arrival.Arrival.{Arrival}
use Rattle.site_state.specs.declared.entry.Entry.{Entry}
use Rattle.site_state.specs.State.{SiteState, arrivals}
use Rattle.rep_schema.specs.Sites.{is_master_site}
use Rattle.site_state.specs.Ready.{is_ready}
use Rattle.site_state.specs.Steps.{begun}
use Rattle.site_state.specs.Passes.{site_apply, site_pass}
use Rattle.event_laws.specs.Confluence.{applied_in_turn, AreReadyInTurn, AreAllThatIsReady, CanPassInAnyOrder, SameButForOrder}
use Rattle.event_laws.proofs.PassLaws.{passes_leave_nothing_ready}
use Rattle.event_laws.proofs.Confluence.{one_site_comes_of_any_order}
use Rattle.journal_sort.specs.Sorting.{finish_position, by_finish_position, entries_from, entries_before, CanBeSorted, IsSorted}
use Rattle.journal_sort.proofs.Selecting.{Has, has_itself}
use Rattle.journal_sort.proofs.SortedJournals.{AllByRecursion-IsPermutation, journal_parts, sorted_parts}
use Rattle.parallel_apply.proofs.InTurn.{ready_among, each_applied, stays_itself, stays_in_turn}
use Rattle.parallel_apply.proofs.MadeEntries.{AreMade, are_made}

-- ---- a journal with more entries

module _ (new older : List Entry) where
  turned : reverse (new ++ older) ≡ reverse older ++ reverse new
  turned = reverse-append new older

  entries_from-append : entries_from (length older) (new ++ older) ≡ reverse new
  entries_from-append = ap (drop (length older)) turned ∙ ap (λ (n : ℕ). drop n (reverse older ++ reverse new)) (sym (length-reverse older)) ∙ drop-append_seam (reverse older) (reverse new)

  entries_before-append : entries_before (length older) (new ++ older) ≡ reverse older
  entries_before-append = ap (take (length older)) turned ∙ ap (λ (n : ℕ). take n (reverse older ++ reverse new)) (sym (length-reverse older)) ∙ take-append_seam (reverse older) (reverse new)

-- ---- of rising lists with the same entries there is one

above_then : (e f : Entry) (es : List Entry) → by_finish_position e f ≡ Less → AllByRecursion (λ g. by_finish_position f g ≡ Less) es → AllByRecursion (λ g. by_finish_position e g ≡ Less) es
above_then e f [] less all = tt
above_then e f (g ∷ es) less all = (
  (let one : finish_position e < finish_position f = grind (arith, nat_tests, less) in
      let other : finish_position f < finish_position g = grind (arith, nat_tests, all.0) in
      sym (nat_cmp_is (finish_position e) (finish_position g) Less (omega (arith, one, other)))),
  above_then e f es less all.1,
)

none_has : (e f : Entry) (es : List Entry) → AllByRecursion (λ g. by_finish_position f g ≡ Less) es → finish_position e ≤ finish_position f → Has es e → ⊥
none_has e f [] above low there = there
none_has e f (g ∷ es) above low there = elim there [
  | inl same ↦ (let more : finish_position f < finish_position g = grind (arith, nat_tests, above.0) in omega (arith, more, low, ap finish_position same))
  | inr later ↦ none_has e f es above.1 low later
]

not_below : (e f : Entry) (es : List Entry) → AllByRecursion (λ g. by_finish_position f g ≡ Less) es → Has (f ∷ es) e → finish_position f ≤ finish_position e
not_below e f es above there = go (Rattle.std.specs.Prelude.nat_le (finish_position f) (finish_position e)) refl
  where
    go : (b : Bool) → Rattle.std.specs.Prelude.nat_le (finish_position f) (finish_position e) ≡ b → finish_position f ≤ finish_position e
    go true is = grind (arith, nat_tests)
    go false is = let less : finish_position e < finish_position f = grind (arith, nat_tests) in elim there [
      | inl same ↦ absurd (omega (arith, less, ap finish_position same))
      | inr later ↦ absurd (none_has e f es above (omega (arith, less)) later)
    ]

has_rest : (f : Entry) (gs : List Entry) (es : List Entry) → AllByRecursion (λ g. by_finish_position f g ≡ Less) es → AllByRecursion (Has (f ∷ gs)) es → AllByRecursion (Has gs) es
has_rest f gs [] above has = tt
has_rest f gs (e ∷ es) above has = (
  elim has.0 [
    | inl same ↦ (let more : finish_position f < finish_position e = grind (arith, nat_tests, above.0) in absurd (omega (arith, more, ap finish_position same)))
    | inr later ↦ later
  ],
  has_rest f gs es above.1 has.1,
)

one_rising : (es fs : List Entry) → IsRising by_finish_position es → IsRising by_finish_position fs → AllByRecursion (Has fs) es → AllByRecursion (Has es) fs → es ≡ fs
one_rising [] [] rising other_rising has other_has = refl
one_rising [] (f ∷ fs) rising other_rising has other_has = absurd other_has.0
one_rising (e ∷ es) [] rising other_rising has other_has = absurd has.0
one_rising (e ∷ es) (f ∷ fs) rising other_rising has other_has =
    λ i. same i ∷ one_rising es fs rising.1 other_rising.1
    (has_rest f fs es (subst (λ g. AllByRecursion (λ h. by_finish_position g h ≡ Less) es) same rising.0) has.1)
    (has_rest e es fs (subst (λ g. AllByRecursion (λ h. by_finish_position g h ≡ Less) fs) (sym same) other_rising.0) other_has.1) i
  where
    low : finish_position f ≤ finish_position e
    low = not_below e f fs other_rising.0 has.0

    same : e ≡ f
    same = elim other_has.0 [
      | inl own ↦ own
      | inr later ↦ absurd (none_has f e es rising.0 low later)
    ]

rising_permuted : (es fs : List Entry) → IsRising by_finish_position es → IsRising by_finish_position fs → IsPermutation es fs → es ≡ fs
rising_permuted es fs rising other_rising moved = one_rising es fs rising other_rising
    (AllByRecursion-IsPermutation (Has fs) fs es (IsPermutation-sym es fs moved) (has_itself fs))
    (AllByRecursion-IsPermutation (Has es) es fs moved (has_itself es))

-- ---- the positions of a pass rise

module _ (origin : SiteName) where
  above_among : (n : ℕ) (arrived : List Arrival) (x : SiteState) → AllByRecursion (λ (a : Arrival). nat_cmp n a.position ≡ Less) arrived → AllByRecursion (λ (q : ℕ). nat_cmp n q ≡ Less) (ready_among origin arrived x)
  above_among n [] x above = tt
  above_among n (a ∷ arrived) x above = go (is_ready origin a.position x) (above_among n arrived (site_apply origin a.position x) above.1) (above_among n arrived x above.1)
    where
      go : (b : Bool) → AllByRecursion (λ (q : ℕ). nat_cmp n q ≡ Less) (ready_among origin arrived (site_apply origin a.position x)) → AllByRecursion (λ (q : ℕ). nat_cmp n q ≡ Less) (ready_among origin arrived x)
          → AllByRecursion (λ (q : ℕ). nat_cmp n q ≡ Less) (cond b (a.position ∷ ready_among origin arrived (site_apply origin a.position x)) (ready_among origin arrived x))
      go true behind same = (above.0, behind)
      go false behind same = same

  rising_among : (arrived : List Arrival) (x : SiteState) → Rattle.rep_lists.specs.RisingLaws.RisesBy (λ (a : Arrival). a.position) nat_cmp arrived → IsRising nat_cmp (ready_among origin arrived x)
  rising_among [] x rising = tt
  rising_among (a ∷ arrived) x rising = go (is_ready origin a.position x) (rising_among arrived (site_apply origin a.position x) rising.1) (rising_among arrived x rising.1)
    where
      go : (b : Bool) → IsRising nat_cmp (ready_among origin arrived (site_apply origin a.position x)) → IsRising nat_cmp (ready_among origin arrived x)
          → IsRising nat_cmp (cond b (a.position ∷ ready_among origin arrived (site_apply origin a.position x)) (ready_among origin arrived x))
      go true behind same = (above_among a.position arrived (site_apply origin a.position x) rising.0, behind)
      go false behind same = same

all_above : (n : ℕ) (es : List Entry) → AllByRecursion (λ (q : ℕ). nat_cmp n q ≡ Less) (map finish_position es) → AllByRecursion (λ e. nat_cmp n (finish_position e) ≡ Less) es
all_above n [] above = tt
all_above n (e ∷ es) above = (above.0, all_above n es above.1)

rising_entries : (es : List Entry) → IsRising nat_cmp (map finish_position es) → IsRising by_finish_position es
rising_entries [] rising = tt
rising_entries (e ∷ es) rising = (all_above (finish_position e) es rising.0, rising_entries es rising.1)

-- ---- the site of a crew

-- a pass that is begun can be made in any order
pub can_pass_begun : (origin : SiteName) (x : SiteState) → CanPassInAnyOrder origin x → CanPassInAnyOrder origin (begun x)
can_pass_begun origin x is = record { sound = is.sound; master = is.master; content = is.content; fits = is.fits; passes = is.passes; numbered = is.numbered }

module _ (origin : SiteName) (x : SiteState) (is : CanPassInAnyOrder origin x) (ps : List ℕ) (ready : AreReadyInTurn origin ps (begun x)) where
  abbrev crew : SiteState
  crew = applied_in_turn origin ps (begun x)

  made : AreMade origin ps (begun x)
  made = are_made origin (begun x) (can_pass_begun origin x is) ps (begun x) (stays_itself origin (begun x)) ready

  new_entries : entries_from (length x.journal) crew.journal ≡ made.entries
  new_entries = ap (entries_from (length x.journal)) made.journal ∙ entries_from-append (reverse made.entries) x.journal ∙ Rattle.std.proofs.lemmas.List.reverse-reverse made.entries

  -- what the crew applied can be sorted
  pub can_be_sorted : CanBeSorted crew.schema origin (length x.journal) crew.journal
  can_be_sorted =
      let schema : crew.schema ≡ x.schema = (stays_in_turn origin ps (begun x)).schema in
      let long : length crew.journal ≡ length (reverse made.entries) + length x.journal = ap length made.journal ∙ length-append (reverse made.entries) x.journal in
      record {
        within = omega (arith, long);
        master = ap (λ s. is_master_site s origin) schema ∙ is.master;
        entries = subst (AllByRecursion (Rattle.journal_sort.specs.Sorting.IsFinishOf origin)) (sym new_entries) made.finishes;
        order = rw schema (subst (Rattle.journal_sort.specs.Sorting.AreInOrder x.schema) (sym new_entries) made.order);
      }

  module _ (none : (p : ℕ) → is_ready origin p crew ≡ false) where
    abbrev qs : List ℕ
    qs = ready_among origin (arrivals origin x) (begun x)

    abbrev alone : SiteState
    alone = site_pass origin x

    each : alone ≡ applied_in_turn origin qs (begun x)
    each = (each_applied origin (arrivals origin x) (begun x)).each

    all_of_one : AreAllThatIsReady origin qs (begun x)
    all_of_one = record {
      ready = (each_applied origin (arrivals origin x) (begun x)).ready;
      none = λ p. ap (is_ready origin p) (sym each) ∙ passes_leave_nothing_ready origin x is.passes p;
    }

    same : SameButForOrder (begun x) crew (applied_in_turn origin qs (begun x))
    same = one_site_comes_of_any_order origin (begun x) ps qs (can_pass_begun origin x is) (record { ready = ready; none = none }) all_of_one

    made_alone : AreMade origin qs (begun x)
    made_alone = are_made origin (begun x) (can_pass_begun origin x is) qs (begun x) (stays_itself origin (begun x)) all_of_one.ready

    abbrev here : SiteState
    here = applied_in_turn origin qs (begun x)

    abbrev place : ℕ
    place = length x.journal

    of_crew : entries_from place crew.journal ≡ reverse same.new
    of_crew = ap (entries_from place) same.journal ∙ entries_from-append same.new x.journal

    of_one : entries_from place here.journal ≡ reverse same.other_new
    of_one = ap (entries_from place) same.other_journal ∙ entries_from-append same.other_new x.journal

    older : entries_before place crew.journal ≡ entries_before place here.journal
    older = ap (entries_before place) same.journal ∙ entries_before-append same.new x.journal ∙ sym (ap (entries_before place) same.other_journal ∙ entries_before-append same.other_new x.journal)

    rising_alone : IsRising by_finish_position (entries_from place here.journal)
    rising_alone = subst (IsRising by_finish_position)
        (sym (ap (entries_from place) made_alone.journal ∙ entries_from-append (reverse made_alone.entries) x.journal ∙ Rattle.std.proofs.lemmas.List.reverse-reverse made_alone.entries))
        (rising_entries made_alone.entries (subst (IsRising nat_cmp) (sym made_alone.positions) (rising_among origin (arrivals origin x) (begun x) is.passes.rising)))

    moved : IsPermutation (entries_from place crew.journal) (entries_from place here.journal)
    moved = rw (of_crew, of_one) (IsPermutation-trans _ _ _ (IsPermutation-sym _ _ (IsPermutation-reverse same.new)) (IsPermutation-trans _ _ _ same.entries (IsPermutation-reverse same.other_new)))

    -- where its entries are sorted, it is the site after a pass
    pub sorted_is_passed : (journal : List Entry) → IsSorted place crew.journal journal → record crew { journal = journal } ≡ site_pass origin x
    sorted_is_passed journal sorted = ap (λ es. record crew { journal = es }) journals ∙ ap (λ (y : SiteState). record y { journal = here.journal }) same.rest ∙ sym each
      where
        new_same : entries_from place journal ≡ entries_from place here.journal
        new_same = rising_permuted _ _ sorted.rising rising_alone (IsPermutation-trans _ _ _ sorted.entries moved)

        journals : journal ≡ here.journal
        journals = sorted_parts place crew.journal journal sorted
            ∙ ap (λ es. reverse es ++ reverse (entries_before place crew.journal)) new_same
            ∙ ap (λ es. reverse (entries_from place here.journal) ++ reverse es) older
            ∙ sym (journal_parts place here.journal)
