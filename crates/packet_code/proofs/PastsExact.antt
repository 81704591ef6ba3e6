-- What a sender had seen is read exactly.
use Rattle.std.proofs.Common.{◌≡◌, ◌≢◌, ℕ, ◌<◌, ◌≤◌, ◌^◌, not, Bool, true, false, List, [], ◌∷◌, refl, ap, arith}
use Rattle.std.specs.Prelude.{◌↔◌}
use Rattle.std.specs.Bool.{Decides}
use Rattle.std.specs.Cmp.{unsigned_Decides}
use Rattle.std.specs.List.{AllByRecursion}
use Rattle.std.specs.Ordering.{is_lt}
use Rattle.std.specs.declared.cmp.Ordering.{Ordering}
use Rattle.std.specs.declared.cmp.Ordering.TheVariants.{Less, Equal, Greater}
use Rattle.std.proofs.lemmas.Bool.{leb-true, le-leb}
use Rattle.std.proofs.lemmas.Cmp.{nat_list_cmp_total}
use Rattle.std.proofs.lemmas.Slice.Eq.{slice_eq-Decides}
use Rattle.rep_lists.specs.RisingLaws.{RisesBy}
use Rattle.rep_lists.proofs.Each.{each_then}
use Rattle.rep_values.specs.declared.name.SiteName.{SiteName}
use Rattle.rep_values.specs.Name.{same_bytes}
use Rattle.rep_values.specs.Order.{name_cmp}
use Rattle.rep_calls.specs.declared.past.PastEntry.{PastEntry}
use Rattle.packet_code.specs.Limits.{IsSiteName, IsPastEntry, IsCausalPast}
use Rattle.packet_code.specs.Spelling.{past_entry_bytes, past_bytes}
use Rattle.packet_code.specs.Forms.{past_entry_of, is_from_one, seen, are_others, names_rise, is_past, past}
use Rattle.packet_code.proofs.Exact.{IsExact, both_true, said_so, tested-exact, made-exact, pair-exact, byte-exact, counted_up_to-exact}
use Rattle.packet_code.proofs.Numbers.{u64-exact}
use Rattle.packet_code.proofs.FormsExact.{site-exact}

-- a name, and a number of eight bytes from 1
abbrev IsOfSomeSite : PastEntry → Type 0
IsOfSomeSite seen = (IsSiteName seen.origin × (seen.number < 2 ^ 64)) × (1 ≤ seen.number)

seen-exact : IsExact IsOfSomeSite past_entry_bytes seen
unfolding seen
seen-exact = tested-exact
    (made-exact (λ (one : PastEntry). IsSiteName one.origin × (one.number < 2 ^ 64)) past_entry_bytes past_entry_of (pair-exact site-exact (λ origin is. u64-exact))
    (λ p is. (is, refl))
    (λ one is. ((one.origin, one.number), is, refl)))
    is_from_one (λ (one : PastEntry). 1 ≤ one.number) (λ one is. (λ e. leb-true 1 one.number e, λ h. le-leb 1 one.number h))

-- the test of two sites
not_same_site : (a b : SiteName) → (not (same_bytes a.0 b.0) ≡ true) ↔ (a ≢ b)
not_same_site a b = go (same_bytes a.0 b.0) refl
  where
    decides : Decides (same_bytes a.0 b.0) (a.0 ≡ b.0)
    decides = slice_eq-Decides unsigned_Decides a.0 b.0 (same_bytes a.0 b.0) refl

    go : (t : Bool) → same_bytes a.0 b.0 ≡ t → (not t ≡ true) ↔ (a ≢ b)
    go true same = (λ e. cc, λ differ. absurd (differ (ap (λ (n : List ℕ). record { 0 = n }) (decides.0 same))))
    go false same = (λ e equal. let is = decides.1 (ap (λ (s : SiteName). s.0) equal) in cc, λ differ. refl)

-- the test that the sender isn't among them
others_test : (from : SiteName) (past : List PastEntry) → (are_others from past ≡ true) ↔ AllByRecursion (λ (one : PastEntry). one.origin ≢ from) past
others_test from [] = (λ e. tt, λ h. refl)
others_test from (one ∷ past) =
    let later = others_test from past in
    let first = not_same_site one.origin from in (
      λ e. let b = both_true (not (same_bytes one.origin.0 from.0)) (are_others from past) e in (first.0 b.0, later.0 b.1),
      λ h. rw (first.1 h.0, later.1 h.1) refl,
    )

less_is : (o : Ordering) → is_lt o ≡ true → o ≡ Less
less_is Less e = refl
less_is Equal e = cc
less_is Greater e = cc

-- where each name is below the next, each is below all later ones
pub names_rise_test : (past : List PastEntry) → (names_rise past ≡ true) ↔ RisesBy (λ (one : PastEntry). one.origin.0) name_cmp past
names_rise_test [] = (λ e. tt, λ h. refl)
names_rise_test (first ∷ []) = (λ e. (tt, tt), λ h. refl)
names_rise_test (first ∷ next ∷ past) =
    let later = names_rise_test (next ∷ past) in (
      λ e.
          let b = both_true (is_lt (name_cmp first.origin.0 next.origin.0)) (names_rise (next ∷ past)) e in
          let below = less_is (name_cmp first.origin.0 next.origin.0) b.0 in
          let rest = later.0 b.1 in (
            (
              below,
              each_then (λ (one : PastEntry). name_cmp next.origin.0 one.origin.0 ≡ Less) (λ (one : PastEntry). name_cmp first.origin.0 one.origin.0 ≡ Less)
                  (λ one above. nat_list_cmp_total.trans first.origin.0 next.origin.0 one.origin.0 below above) past rest.0,
            ),
            rest,
          ),
      λ h. rw (h.0.0, later.1 h.1) refl,
    )

past_test : (from : SiteName) (past : List PastEntry) → (is_past from past ≡ true) ↔ (AllByRecursion (λ (one : PastEntry). one.origin ≢ from) past × RisesBy (λ (one : PastEntry). one.origin.0) name_cmp past)
past_test from past = (
  λ e. let b = both_true (are_others from past) (names_rise past) e in ((others_test from past).0 b.0, (names_rise_test past).0 b.1),
  λ h. rw ((others_test from past).1 h.0, (names_rise_test past).1 h.1) refl,
)

-- masters that aren't the sender
each_seen : (from : SiteName) (past : List PastEntry) → (AllByRecursion IsOfSomeSite past × AllByRecursion (λ (one : PastEntry). one.origin ≢ from) past) ↔ AllByRecursion (IsPastEntry from) past
each_seen from [] = (λ h. tt, λ h. (tt, tt))
each_seen from (one ∷ past) =
    let later = each_seen from past in (
      λ h. (record { origin = h.0.0.0.0; another = h.1.0; from_one = h.0.0.1; number_fits = h.0.0.0.1 }, later.0 (h.0.1, h.1.1)),
      λ h. let rest = later.1 h.1 in ((((h.0.origin, h.0.number_fits), h.0.from_one), rest.0), (h.0.another, rest.1)),
    )

-- a past
pub past-exact : (from : SiteName) → IsExact (IsCausalPast from) past_bytes (past from)
unfolding past
past-exact from = said_so
    (tested-exact (counted_up_to-exact byte-exact 7 (λ n le. omega (arith, le)) seen-exact) (is_past from)
    (λ (past : List PastEntry). AllByRecursion (λ (one : PastEntry). one.origin ≢ from) past × RisesBy (λ (one : PastEntry). one.origin.0) name_cmp past) (λ past is. past_test from past))
    (λ past. (
      λ h. record { most = h.0.0; each = (each_seen from past).0 (h.0.1, h.1.0); rise = h.1.1 },
      λ is. let each = (each_seen from past).1 is.each in ((is.most, each.0), (each.1, is.rise)),
    ))
