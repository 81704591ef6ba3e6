-- Names of sites that are each another one.
use Rattle.std.proofs.Common.{◌≡◌, ◌≢◌, ℕ, zero, suc, List, [], ◌∷◌, map, take, Bool, true, false, cond, None, Some, refl, sym, arith}
use Rattle.std.specs.Prelude.{◌||◌, filter, slice_get}
use Rattle.std.specs.List.{AllByRecursion}
use Rattle.std.proofs.lemmas.List.Elements.{recursion_from_All}
use Rattle.rep_values.specs.declared.name.SiteName.{SiteName}
use Rattle.rep_schema.specs.Shape.{AreDistinct}
use Rattle.rep_values.specs.SiteNames.{is_same_site}
use Rattle.deferred_queue.proofs.Sites.{is_same_site-true, is_same_site-refl}
use Rattle.site_state.specs.State.{SenderState, sender_of}
use Rattle.rep_schema.specs.Sites.{is_among}
use Rattle.sender_inbox.proofs.StandingErrors.{StandApart}
use Rattle.proc_calls.specs.Outgoing.{NamesApart}

-- names that aren't the same
pub off_same : (a b : SiteName) → a ≢ b → is_same_site a b ≡ false
off_same a b other = go (is_same_site a b) refl
  where
    go : (c : Bool) → is_same_site a b ≡ c → c ≡ false
    go true is = absurd (other (is_same_site-true a b is))
    go false is = refl

-- aren't
pub apart_from : (a b : SiteName) → is_same_site a b ≡ false → a ≢ b
apart_from a b off same =
    let is : is_same_site a b ≡ true = rw same (is_same_site-refl b) in
    absurd (cc (is, off))

-- whichever way round
pub off_both : (a b : SiteName) → is_same_site a b ≡ false → is_same_site b a ≡ false
off_both a b off = off_same b a (λ same. apart_from a b off (sym same))

or_parts : (b c : Bool) → (b || c) ≡ false → (b ≡ false) × (c ≡ false)
or_parts true c none = absurd (cc none)
or_parts false c none = (refl, none)

-- ---- distinct names

not_among : (name : SiteName) (names : List SiteName) → AllByRecursion (λ (m : SiteName). name ≢ m) names → is_among names name ≡ false
not_among name [] others = refl
not_among name (m ∷ ms) others = rw (off_same m name (λ same. others.0 (sym same)), not_among name ms others.1) refl

pub names_apart : (names : List SiteName) → AreDistinct names → NamesApart names
names_apart [] distinct = tt
names_apart (n ∷ ns) distinct = (
  not_among n ns (recursion_from_All (λ (m : SiteName). n ≢ m) ns (λ k d within. distinct 0 (suc k) d (omega arith) (omega (arith, within)))),
  names_apart ns (λ i j d less within. distinct (suc i) (suc j) d (omega (arith, less)) (omega (arith, within))),
)

-- ---- some of the names

pub not_among_some : (test : SiteName → Bool) (name : SiteName) (names : List SiteName) → is_among names name ≡ false → is_among (filter test names) name ≡ false
not_among_some test name [] none = refl
not_among_some test name (m ∷ ms) none =
    let parts = or_parts (is_same_site m name) (is_among ms name) none in
    go (test m) parts.0 (not_among_some test name ms parts.1)
  where
    go : (b : Bool) → is_same_site m name ≡ false → is_among (filter test ms) name ≡ false → is_among (cond b (m ∷ filter test ms) (filter test ms)) name ≡ false
    go true off later = rw (off, later) refl
    go false off later = later

-- are apart too
pub apart_some : (test : SiteName → Bool) (names : List SiteName) → NamesApart names → NamesApart (filter test names)
apart_some test [] apart = tt
apart_some test (n ∷ ns) apart = go (test n) (apart_some test ns apart.1)
  where
    go : (b : Bool) → NamesApart (filter test ns) → NamesApart (cond b (n ∷ filter test ns) (filter test ns))
    go true later = (not_among_some test n ns apart.0, later)
    go false later = later

-- each other name is another one
pub others_of : (name : SiteName) (names : List SiteName) → is_among names name ≡ false → AllByRecursion (λ (m : SiteName). is_same_site name m ≡ false) names
others_of name [] none = tt
others_of name (m ∷ ms) none =
    let parts = or_parts (is_same_site m name) (is_among ms name) none in
    (off_both m name parts.0, others_of name ms parts.1)

-- a name isn't among those before it
pub not_before : (names : List SiteName) (i : ℕ) (name : SiteName) → NamesApart names → slice_get names i ≡ Some name → is_among (take i names) name ≡ false
not_before [] i name apart there = absurd (cc there)
not_before (n ∷ ns) zero name apart there = refl
not_before (n ∷ ns) (suc i) name apart there = rw (first ns i apart.0 there, not_before ns i name apart.1 there) refl
  where
    first : (ms : List SiteName) (k : ℕ) → is_among ms n ≡ false → slice_get ms k ≡ Some name → is_same_site n name ≡ false
    first [] k none there = absurd (cc there)
    first (m ∷ ms) zero none there =
        let same : m ≡ name = cc there in
        rw (← same) (off_both m n (or_parts (is_same_site m n) (is_among ms n) none).0)
    first (m ∷ ms) (suc k) none there = first ms k (or_parts (is_same_site m n) (is_among ms n) none).1 there

-- ---- senders

no_sender : (name : SiteName) (ss : List SenderState) → is_among (map (λ (s : SenderState). s.origin) ss) name ≡ false → sender_of name ss ≡ None
no_sender name [] none = refl
no_sender name (s ∷ ss) none =
    let parts = or_parts (is_same_site s.origin name) (is_among (map (λ (s : SenderState). s.origin) ss) name) none in
    rw parts.0 (no_sender name ss parts.1)

-- senders with names apart are each another one
pub senders_stand_apart : (ss : List SenderState) → NamesApart (map (λ (s : SenderState). s.origin) ss) → StandApart ss
senders_stand_apart [] apart = tt
senders_stand_apart (s ∷ ss) apart = (no_sender s.origin ss apart.0, senders_stand_apart ss apart.1)
