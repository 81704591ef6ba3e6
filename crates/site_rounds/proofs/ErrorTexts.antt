-- The lines of the errors that newer entries brought, by their positions.
use Rattle.std.proofs.Common.{◌≡◌, ℕ, zero, suc, ◌+◌, ◌<◌, ◌≤◌, ◌==◌, List, [], ◌∷◌, ◌++◌, take, drop, take-append-drop, Bool, true, false, cond, ◌||◌, ◌&&◌, Some, None, refl, sym, ap, subst, ◌∙◌, arith, add-one}
use Rattle.std.specs.Prelude.{Option, flat_map, is_some}
use Rattle.std.specs.List.{AllByRecursion, list_any, filter_map, cons_option}
use Rattle.std.specs.List.Sorted.{IsStrictlySortedBy}
use Rattle.std.specs.Ordering.{nat_cmp, is_eq}
use Rattle.std.specs.declared.cmp.Ordering.{Ordering}
use Rattle.std.specs.declared.cmp.Ordering.TheVariants.{Less, Equal, Greater}
use Rattle.std.specs.Cmp.{ranked, nat_cmp_is, unsigned_tied}
use Rattle.std.specs.BTreeMap.{is_at}
use Rattle.std.proofs.lemmas.Map.Keys.{sorted_head, sorted_tail}
use Rattle.rep_lists.specs.Rising.{IsRising, find_at, found_here}
use Rattle.rep_values.specs.declared.name.SiteName.{SiteName}
use Rattle.rep_values.specs.SiteNames.{is_same_site}
use Rattle.deferred_queue.proofs.Sites.{is_same_site-true}
use Rattle.error_queue.specs.declared.entry.ErrorEntry.{ErrorEntry}
use Rattle.error_queue.specs.ErrorLists.{error_beside}
use Rattle.error_queue.specs.ErrorQueueState.{by_error_position, AreErrorsOf}
use Rattle.site_state.specs.declared.arrival.Arrival.{Arrival}
use Rattle.site_state.specs.declared.entry.Entry.{Entry}
use Rattle.site_state.specs.declared.entry.Entry.TheVariants.{Local, Done, Error, Executed, Dropped, Refreshed}
use Rattle.site_state.specs.State.{SenderState}
use Rattle.site_state.specs.Journal.{is_position, error_at}
use Rattle.site_state.specs.Errors.{errors_from}
use Rattle.site_state.proofs.Stepping.{error_found}
use Rattle.rep_lists.proofs.Each.{all-append}
use Rattle.site_rounds.specs.NewErrors.{brings, brought_of, error_entry_text, text_found, text_at, text_where_new, StandsBy}

-- ---- by position

-- a position is one of several
abbrev has : List ℕ → ℕ → Bool
has positions p = list_any (is_at (nat_cmp p)) positions

-- the line of an error whose position is one of several
abbrev text_among : List ℕ → ErrorEntry → List ℕ
text_among positions e = cond (has positions e.position) (error_entry_text e) []

-- what isn't above a position that is below all others is none of these
none_of : (positions : List ℕ) (p q : ℕ) → q ≤ p → AllByRecursion (λ k. nat_cmp p k ≡ Less) positions → has positions q ≡ false
none_of [] p q le below = refl
none_of (k ∷ positions) p q le below =
    let first : p < k = ranked p k Less (sym below.0) in
    rw (← nat_cmp_is q k Less (omega (arith, le, first))) (none_of positions p q le below.1)

-- errors behind a position don't stand at it
behind_all : (positions : List ℕ) (errors : List ErrorEntry) (p q : ℕ) → p ≤ q → AllByRecursion (λ (e : ErrorEntry). nat_cmp q e.position ≡ Less) errors
    → flat_map (text_among positions) errors ≡ flat_map (text_among (p ∷ positions)) errors
behind_all positions [] p q le below = refl
behind_all positions (e ∷ errors) p q le below =
    let first : q < e.position = ranked q e.position Less (sym below.0) in
    rw (← nat_cmp_is e.position p Greater (omega (arith, le, first))) (ap (λ (t : List ℕ). text_among positions e ++ t) (behind_all positions errors p q le below.1))

-- the line of the error of one position more comes first, where it is below the others
first_more : (positions : List ℕ) (p : ℕ) (errors : List ErrorEntry) → IsRising by_error_position errors → AllByRecursion (λ k. nat_cmp p k ≡ Less) positions
    → text_at errors p ++ flat_map (text_among positions) errors ≡ flat_map (text_among (p ∷ positions)) errors
first_more positions p [] rising below = refl
first_more positions p (e ∷ errors) rising below = go (nat_cmp e.position p) refl (first_more positions p errors rising.1 below)
  where
    go : (o : Ordering) → nat_cmp e.position p ≡ o → text_at errors p ++ flat_map (text_among positions) errors ≡ flat_map (text_among (p ∷ positions)) errors
        → text_found (found_here o e (find_at (error_beside p) errors)) ++ (text_among positions e ++ flat_map (text_among positions) errors)
        ≡ cond (is_eq o || has positions e.position) (error_entry_text e) [] ++ flat_map (text_among (p ∷ positions)) errors
    go Less place later =
        let before : e.position < p = ranked e.position p Less (sym place) in
        rw (none_of positions p e.position (omega (arith, before)) below) later
    go Equal place later =
        let same : e.position ≡ p = ranked e.position p Equal (sym place) in
        rw (none_of positions p e.position (omega (arith, same)) below) (ap (λ (t : List ℕ). error_entry_text e ++ t) (behind_all positions errors p e.position (omega (arith, same)) rising.0))
    go Greater place later =
        let behind : p < e.position = ranked e.position p Greater (sym place) in
        ap (λ (t : List ℕ). text_among positions e ++ t) (behind_all positions errors p e.position (omega (arith, behind)) rising.0)

no_texts : (errors : List ErrorEntry) → flat_map (text_among []) errors ≡ []
no_texts [] = refl
no_texts (e ∷ errors) = no_texts errors

-- the lines position by position are those of the errors that stand at one
pub texts_at : (errors : List ErrorEntry) (positions : List ℕ) → IsRising by_error_position errors → IsStrictlySortedBy nat_cmp positions
    → flat_map (text_at errors) positions ≡ flat_map (text_among positions) errors
texts_at errors [] rising sorted = sym (no_texts errors)
texts_at errors (p ∷ positions) rising sorted =
    ap (λ (t : List ℕ). text_at errors p ++ t) (texts_at errors positions rising (sorted_tail nat_cmp p positions sorted))
    ∙ first_more positions p errors rising (sorted_head nat_cmp p positions sorted)

-- ---- by the newest entries

module _ (origin : SiteName) (position : ℕ) (olds : List Entry) (e : ErrorEntry) where
  uncleared : (cleared : Bool) (news : List Entry) → cond cleared None (error_at origin position (news ++ olds)) ≡ Some e
      → (error_at origin position (news ++ olds) ≡ Some e → is_some (error_at origin position news) ≡ list_any (brings origin position) news)
      → is_some (cond cleared None (error_at origin position news)) ≡ list_any (brings origin position) news
  uncleared true news here later = absurd (cc here)
  uncleared false news here later = later here

  -- an error that stands was brought by newer entries where it stands by these alone
  brought_stands : (news : List Entry) → error_at origin position (news ++ olds) ≡ Some e → is_some (error_at origin position news) ≡ list_any (brings origin position) news
  brought_stands [] stands = refl
  brought_stands (Local number txn ∷ news) stands = brought_stands news stands
  brought_stands (Done o p onward txn ∷ news) stands = brought_stands news stands
  brought_stands (Error o p call error txn ∷ news) stands = go (is_position origin position o p) stands (brought_stands news)
    where
      brought : ErrorEntry
      brought = record { origin = o; position = p; call = call; error = error; txn = txn }

      go : (b : Bool) → cond b (Some brought) (error_at origin position (news ++ olds)) ≡ Some e → (error_at origin position (news ++ olds) ≡ Some e → is_some (error_at origin position news) ≡ list_any (brings origin position) news)
          → is_some (cond b (Some brought) (error_at origin position news)) ≡ (b || list_any (brings origin position) news)
      go true here later = refl
      go false here later = later here
  brought_stands (Executed o p onward txn ∷ news) stands = uncleared (is_position origin position o p) news stands (brought_stands news)
  brought_stands (Dropped o p ∷ news) stands = uncleared (is_position origin position o p) news stands (brought_stands news)
  brought_stands (Refreshed moment ∷ news) stands = brought_stands news stands

module _ (news olds : List Entry) (origin : SiteName) (positions : List ℕ) (each : (p : ℕ) → has positions p ≡ list_any (brings origin p) news) where
  text_among-new : (e : ErrorEntry) → origin ≡ e.origin → StandsBy (news ++ olds) e → text_among positions e ≡ text_where_new news e
  text_among-new e own stands =
      ap (λ (b : Bool). cond b (error_entry_text e) [])
      (each e.position ∙ ap (λ (o : SiteName). list_any (brings o e.position) news) own ∙ sym (brought_stands e.origin e.position olds e news stands))

  texts_among-new : (errors : List ErrorEntry) → AllByRecursion (λ (e : ErrorEntry). is_same_site origin e.origin ≡ true) errors → AllByRecursion (StandsBy (news ++ olds)) errors
      → flat_map (text_among positions) errors ≡ flat_map (text_where_new news) errors
  texts_among-new [] own stand = refl
  texts_among-new (e ∷ errors) own stand =
      ap (λ (t : List ℕ). t ++ flat_map (text_among positions) errors) (text_among-new e (is_same_site-true origin e.origin own.0) stand.0)
      ∙ ap (λ (t : List ℕ). text_where_new news e ++ t) (texts_among-new errors own.1 stand.1)

-- the lines at the positions that the newest entries, so many, brought are those of the errors that these brought
pub new_texts_at : (count : ℕ) (journal : List Entry) (origin : SiteName) (errors : List ErrorEntry) (positions : List ℕ) → AreErrorsOf origin errors → IsStrictlySortedBy nat_cmp positions
    → ((p : ℕ) → has positions p ≡ list_any (brings origin p) (take count journal)) → AllByRecursion (StandsBy journal) errors
    → flat_map (text_at errors) positions ≡ flat_map (text_where_new (take count journal)) errors
new_texts_at count journal origin errors positions are sorted each stand =
    texts_at errors positions are.rising sorted
    ∙ texts_among-new (take count journal) (drop count journal) origin positions each errors are.own
    (subst (λ (entries : List Entry). AllByRecursion (StandsBy entries) errors) (sym (take-append-drop count journal)) stand)

-- ---- of all senders

module _ (journal : List Entry) where
  own_stands : (origin : SiteName) (position : ℕ) (e : ErrorEntry) (found : Option ErrorEntry) → (e.origin ≡ origin) × (e.position ≡ position) → error_at origin position journal ≡ found → error_at e.origin e.position journal ≡ found
  own_stands origin position e found own is = rw (own.0, own.1) is

  stand_from : (origin : SiteName) (arrived : List Arrival) → AllByRecursion (StandsBy journal) (filter_map (λ (a : Arrival). error_at origin a.position journal) arrived)
  stand_from origin [] = tt
  stand_from origin (a ∷ arrived) = go (error_at origin a.position journal) refl (stand_from origin arrived)
    where
      rest : List ErrorEntry
      rest = filter_map (λ (b : Arrival). error_at origin b.position journal) arrived

      go : (o : Option ErrorEntry) → error_at origin a.position journal ≡ o → AllByRecursion (StandsBy journal) rest → AllByRecursion (StandsBy journal) (cons_option o rest)
      go None is later = later
      go (Some e) is later = (own_stands origin a.position e (Some e) (error_found origin a.position journal e is) is, later)

  -- the errors that stand at a site stand by its journal
  pub all_stand : (ss : List SenderState) → AllByRecursion (StandsBy journal) (flat_map (errors_from journal) ss)
  all_stand [] = tt
  all_stand (s ∷ ss) = all-append (StandsBy journal) (errors_from journal s) (flat_map (errors_from journal) ss) (stand_from s.origin s.arrived) (all_stand ss)

module _ {X : Type 0} (P : X → Type 0) where
  pub all_front : (xs ys : List X) → AllByRecursion P (xs ++ ys) → AllByRecursion P xs
  all_front [] ys all = tt
  all_front (x ∷ xs) ys all = (all.0, all_front xs ys all.1)

  pub all_rest : (xs ys : List X) → AllByRecursion P (xs ++ ys) → AllByRecursion P ys
  all_rest [] ys all = all
  all_rest (x ∷ xs) ys all = all_rest xs ys all.1

-- ---- entry by entry

either : (a b c : Bool) → (a || (b || c)) ≡ (b || (a || c))
either true true c = refl
either true false c = refl
either false b c = refl

any_next : {X : Type 0} (test : X → Bool) (xs rest : List X) (n : ℕ) (x : X) → drop n xs ≡ x ∷ rest → list_any test (take (suc n) xs) ≡ (test x || list_any test (take n xs))
any_next test [] rest zero x next = absurd (cc next)
any_next test [] rest (suc n) x next = absurd (cc next)
any_next test (y ∷ ys) rest zero x next = let same : y ≡ x = cc next in ap (λ (z : _). test z || false) same
any_next test (y ∷ ys) rest (suc n) x next = ap (λ (b : Bool). test y || b) (any_next test ys rest n x next) ∙ either (test y) (test x) (list_any test (take n ys))

module _ (origin : SiteName) where
  -- what an entry brings of a sender
  pub brings_one : (e : Entry) (q p : ℕ) → Some q ≡ brought_of origin e → brings origin p e ≡ (q == p)
  brings_one (Local number txn) q p is = absurd (cc is)
  brings_one (Done o r onward txn) q p is = absurd (cc is)
  brings_one (Error o r call error txn) q p is = go (is_same_site o origin) is
    where
      go : (b : Bool) → Some q ≡ cond b (Some r) None → (b && r == p) ≡ (q == p)
      go true here = let same : r ≡ q = cc here in ap (λ (n : ℕ). n == p) same
      go false here = absurd (cc here)
  brings_one (Executed o r onward txn) q p is = absurd (cc is)
  brings_one (Dropped o r) q p is = absurd (cc is)
  brings_one (Refreshed moment) q p is = absurd (cc is)

  pub brings_none : (e : Entry) (p : ℕ) → None ≡ brought_of origin e → brings origin p e ≡ false
  brings_none (Local number txn) p is = refl
  brings_none (Done o r onward txn) p is = refl
  brings_none (Error o r call error txn) p is = go (is_same_site o origin) is
    where
      go : (b : Bool) → None ≡ cond b (Some r) None → (b && r == p) ≡ false
      go true here = absurd (cc here)
      go false here = refl
  brings_none (Executed o r onward txn) p is = refl
  brings_none (Dropped o r) p is = refl
  brings_none (Refreshed moment) p is = refl

  module _ (journal rest : List Entry) (behind : ℕ) (e : Entry) (next : drop behind journal ≡ e ∷ rest) (before after : ℕ → Bool) (so_far : (p : ℕ) → before p ≡ list_any (brings origin p) (take behind journal)) where
    -- one entry more, which brings an error of the sender
    pub brought_more : (q : ℕ) → Some q ≡ brought_of origin e → ((p : ℕ) → after p ≡ cond (is_at (nat_cmp q) p) true (before p)) → (p : ℕ) → after p ≡ list_any (brings origin p) (take (behind + 1) journal)
    brought_more q is updates p =
        updates p
        ∙ joined (is_at (nat_cmp q) p) (before p)
        ∙ ap (λ (b : Bool). b || before p) (unsigned_tied q p ∙ sym (brings_one e q p is))
        ∙ ap (λ (b : Bool). brings origin p e || b) (so_far p)
        ∙ sym (one_more p)
      where
        joined : (b c : Bool) → cond b true c ≡ (b || c)
        joined true c = refl
        joined false c = refl

        one_more : (p : ℕ) → list_any (brings origin p) (take (behind + 1) journal) ≡ (brings origin p e || list_any (brings origin p) (take behind journal))
        one_more p = rw (add-one behind) (any_next (brings origin p) journal rest behind e next)

    -- or which brings none
    pub brought_same : None ≡ brought_of origin e → (p : ℕ) → before p ≡ list_any (brings origin p) (take (behind + 1) journal)
    brought_same is p = so_far p ∙ sym (rw (add-one behind) (any_next (brings origin p) journal rest behind e next) ∙ ap (λ (b : Bool). b || list_any (brings origin p) (take behind journal)) (brings_none e p is))
