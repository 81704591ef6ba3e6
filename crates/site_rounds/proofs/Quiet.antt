-- Rounds one by one, and the round that does nothing.
use Rattle.std.proofs.Common.{◌≡◌, ℕ, ◌+◌, ◌≤◌, List, [], ◌∷◌, length, drop, Bool, true, false, cond, refl, sym, ap, ◌∙◌, subst, arith}
use Rattle.std.specs.Prelude.{◌||◌, not}
use Rattle.std.specs.List.{list_any}
use Rattle.std.proofs.lemmas.List.{length-map, drop_all}
use Rattle.rep_values.specs.declared.name.SiteName.{SiteName}
use Rattle.site_state.specs.State.{SenderState, SiteState, arrivals}
use Rattle.site_state.specs.Passes.{site_pass}
use Rattle.site_state.specs.Rounds.{is_ready_here, has_ready, passed_where_ready, round, rounds, sender_names, arrived_count, site_rounds, NothingReady}
use Rattle.event_laws.proofs.RoundsEnd.{round_goes, round_same, rounds_same, rounds_leave_nothing, rounds_more}

abbrev pub any_ready : List SiteName → SiteState → Bool
any_ready names x = list_any (λ origin. has_ready origin x) names

none_passes : {A : Type 0} (test : A → Bool) (xs : List A) → ((a : A) → test a ≡ false) → list_any test xs ≡ false
none_passes test [] none = refl
none_passes test (x ∷ xs) none = rw (none x, none_passes test xs none) refl

none_ready : (names : List SiteName) (x : SiteState) → NothingReady x → any_ready names x ≡ false
none_ready names x nothing = none_passes (λ origin. has_ready origin x) names (λ origin. none_passes (is_ready_here origin x) (arrivals origin x) (λ a. nothing origin a.position))

-- one round more at the start leaves what rounds lead to
pub site_rounds-round : (x : SiteState) → site_rounds (round (sender_names x.senders) x) ≡ site_rounds x
site_rounds-round x =
    let names = sender_names x.senders in
    let n = arrived_count x.senders in
    ap (λ (ss : List SenderState). rounds (arrived_count ss) (sender_names ss) (round names x)) (round_goes names x).senders
    ∙ rounds_more n names x ∙ round_same names (site_rounds x) (none_ready names (site_rounds x) (rounds_leave_nothing x))

-- where nothing is ready the rounds are over
pub site_rounds-quiet : (x : SiteState) → any_ready (sender_names x.senders) x ≡ false → site_rounds x ≡ x
site_rounds-quiet x none = rounds_same (arrived_count x.senders) (sender_names x.senders) x none

-- ---- a round, sender by sender

module _ (start x y : SiteState) (names : List SiteName) (place : ℕ) (origin : SiteName) (next : drop place names ≡ origin ∷ drop (place + 1) names) (is : y ≡ passed_where_ready origin x) where
  -- the rest of a round, with one sender less
  pub round_goes_on : round (drop place names) x ≡ round names start → round (drop (place + 1) names) y ≡ round names start
  round_goes_on left = ap (round (drop (place + 1) names)) is ∙ ap (λ (os : List SiteName). round os x) (sym next) ∙ left

  passed_none : (b : Bool) → b ≡ false → cond b (site_pass origin x) x ≡ x
  passed_none b idle = rw idle refl

  -- as long as there was no pass, nothing was ready, and the site is as before
  pub quiet_goes_on : has_ready origin x ≡ false → (x ≡ start) × (any_ready (drop place names) start ≡ any_ready names start)
      → (y ≡ start) × (any_ready (drop (place + 1) names) start ≡ any_ready names start)
  quiet_goes_on idle so_far = (is ∙ passed_none (has_ready origin x) idle ∙ so_far.0, sym one ∙ ap (λ (os : List SiteName). any_ready os start) (sym next) ∙ so_far.1)
    where
      at_start : has_ready origin start ≡ false
      at_start = subst (λ (z : SiteState). has_ready origin z ≡ false) so_far.0 idle

      one : any_ready (origin ∷ drop (place + 1) names) start ≡ any_ready (drop (place + 1) names) start
      one = ap (λ (b : Bool). b || any_ready (drop (place + 1) names) start) at_start

pub first_false : (b c : Bool) → (b || c) ≡ false → b ≡ false
first_false true c is = absurd (cc is)
first_false false c is = refl

pub second_false : (b c : Bool) → (b || c) ≡ false → c ≡ false
second_false true c is = absurd (cc is)
second_false false c is = is

pub untrue : (b : Bool) → not b ≡ true → b ≡ false
untrue true is = absurd (cc is)
untrue false is = refl

-- ---- the end

-- behind the last sender, where none was ready so far none is
pub none_at_end : (senders : List SenderState) (place : ℕ) (x : SiteState) → length senders ≤ place
    → any_ready (drop place (sender_names senders)) x ≡ any_ready (sender_names senders) x → any_ready (sender_names senders) x ≡ false
none_at_end senders place x past same =
    let none : drop place (sender_names senders) ≡ [] = drop_all place (sender_names senders) (omega (arith, past, length-map senders (λ (s : SenderState). s.origin))) in
    sym same ∙ ap (λ (names : List SiteName). any_ready names x) none

-- a round in which nothing was ready is the last
pub last_round : (x y : SiteState) (target : SiteState) → site_rounds x ≡ target → any_ready (sender_names x.senders) x ≡ false → y ≡ round (sender_names x.senders) x → y ≡ target
last_round x y target left none is = is ∙ round_same (sender_names x.senders) x none ∙ sym (site_rounds-quiet x none) ∙ left

-- it leaves the site as it is
pub last_same : (x y : SiteState) → any_ready (sender_names x.senders) x ≡ false → y ≡ round (sender_names x.senders) x → y ≡ x
last_same x y none is = is ∙ round_same (sender_names x.senders) x none
