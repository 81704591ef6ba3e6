-- What a journal has more after passes, and once all that came is applied; and what these entries finish.
use Rattle.std.proofs.Common.{◌≡◌, ℕ, zero, suc, ◌+◌, ◌-◌, ◌≤◌, List, [], ◌∷◌, ◌++◌, length, take, drop, Bool, true, false, cond, refl, sym, ap, ◌∙◌, arith, append_assoc, length-append, length-take, add-one}
use Rattle.rep_values.specs.declared.name.SiteName.{SiteName}
use Rattle.site_state.specs.declared.answers.PassCount.{PassCount}
use Rattle.site_state.specs.declared.arrival.Arrival.{Arrival}
use Rattle.site_state.specs.declared.entry.Entry.{Entry}
use Rattle.site_state.specs.State.{SiteState, arrivals}
use Rattle.site_state.specs.Passes.{site_apply, apply_each, site_pass, is_done, is_error, added_count, pass_answer}
use Rattle.site_state.specs.Steps.{begun}
use Rattle.rep_lists.specs.Counting.{count_where}
use Rattle.site_state.proofs.Growing.{IsFront, front_none}
use Rattle.site_state.proofs.Stepping.{apply_steps, steps_later}
use Rattle.site_state.specs.Rounds.{has_ready, passed_where_ready, round, rounds, sender_names, arrived_count, site_until_quiet}
use Rattle.site_rounds.specs.Parts.{finished_in}
use Rattle.site_rounds.proofs.Parts.{count_at_most}

-- a journal has more in front
abbrev pub Grows : SiteState → SiteState → Type 0
Grows x y = IsFront y.journal x.journal

grows_then : (x y z : SiteState) → Grows x y → Grows y z → Grows x z
grows_then x y z first next = record { front = next.front ++ first.front; is = next.is ∙ ap (λ (es : List Entry). next.front ++ es) first.is ∙ sym (append_assoc next.front first.front x.journal) }

each_grows : (origin : SiteName) (arrived : List Arrival) (x : SiteState) → Grows x (apply_each origin arrived x)
each_grows origin [] x = front_none x.journal
each_grows origin (a ∷ arrived) x = grows_then x (site_apply origin a.position x) (apply_each origin arrived (site_apply origin a.position x))
    (steps_later x (site_apply origin a.position x) (apply_steps origin a.position x)).journal (each_grows origin arrived (site_apply origin a.position x))

pass_grows : (origin : SiteName) (x : SiteState) → Grows x (site_pass origin x)
pass_grows origin x = let g = each_grows origin (arrivals origin x) (begun x) in record { front = g.front; is = g.is }

where_grows : (origin : SiteName) (x : SiteState) → Grows x (passed_where_ready origin x)
where_grows origin x = go (has_ready origin x)
  where
    go : (b : Bool) → Grows x (cond b (site_pass origin x) x)
    go true = pass_grows origin x
    go false = front_none x.journal

round_grows : (origins : List SiteName) (x : SiteState) → Grows x (round origins x)
round_grows [] x = front_none x.journal
round_grows (origin ∷ origins) x = grows_then x (passed_where_ready origin x) (round origins (passed_where_ready origin x)) (where_grows origin x) (round_grows origins (passed_where_ready origin x))

rounds_grow : (n : ℕ) (origins : List SiteName) (x : SiteState) → Grows x (rounds n origins x)
rounds_grow zero origins x = front_none x.journal
rounds_grow (suc n) origins x = grows_then x (round origins x) (rounds n origins (round origins x)) (round_grows origins x) (rounds_grow n origins (round origins x))

-- once a site has applied what came, its journal has more in front
pub until_quiet_grows : (origin : SiteName) (x : SiteState) → Grows x (site_until_quiet origin x)
until_quiet_grows origin x =
    let y : SiteState = site_pass origin x in
    grows_then x y (site_until_quiet origin x) (pass_grows origin x) (rounds_grow (arrived_count y.senders) (sender_names y.senders) y)

-- and is no shorter
pub until_quiet-longer : (origin : SiteName) (x y : SiteState) (before : ℕ) → y ≡ site_until_quiet origin x → before ≡ length x.journal → before ≤ length y.journal
until_quiet-longer origin x y before is begins =
    let g = until_quiet_grows origin x in
    let same : length y.journal ≡ length g.front + length x.journal = ap (λ (z : SiteState). length z.journal) is ∙ ap length g.is ∙ length-append g.front x.journal in
    omega (arith, same, begins)

-- ---- what the entries of a pass finish

-- what stands in front is what a longer list has more
pub take-front : {X : Type 0} (front xs : List X) → take (length (front ++ xs) - length xs) (front ++ xs) ≡ front
take-front [] xs = let none : length xs - length xs ≡ 0 = omega arith in rw none refl
take-front (x ∷ front) xs = let longer : length ((x ∷ front) ++ xs) - length xs ≡ suc (length (front ++ xs) - length xs) = omega (arith, length-append front xs) in
    rw longer (ap (λ ys. x ∷ ys) (take-front front xs))

pub count_where-append : {X : Type 0} (test : X → Bool) (xs ys : List X) → count_where test (xs ++ ys) ≡ count_where test xs + count_where test ys
count_where-append test [] ys = omega arith
count_where-append test (x ∷ xs) ys = go (test x) (count_where-append test xs ys)
  where
    go : (b : Bool) → count_where test (xs ++ ys) ≡ count_where test xs + count_where test ys
        → cond b (count_where test (xs ++ ys) + 1) (count_where test (xs ++ ys)) ≡ cond b (count_where test xs + 1) (count_where test xs) + count_where test ys
    go true later = omega (arith, later)
    go false later = later

newest_count : (test : Entry → Bool) (x y : SiteState) → Grows x y → count_where test (take (length y.journal - length x.journal) y.journal) ≡ added_count test x y
newest_count test x y g =
    let counted : count_where test y.journal ≡ count_where test g.front + count_where test x.journal = ap (count_where test) g.is ∙ count_where-append test g.front x.journal in
    let added : count_where test g.front ≡ added_count test x y = omega (arith, counted) in
    ap (λ (es : List Entry). count_where test (take (length es - length x.journal) es)) g.is ∙ ap (count_where test) (take-front g.front x.journal) ∙ added

-- the entries that a journal has more tell what was finished
pub newest_finish : (x y : SiteState) → Grows x y → finished_in (take (length y.journal - length x.journal) y.journal) ≡ record { done = added_count is_done x y; errors = added_count is_error x y }
newest_finish x y g = λ i. record { done = newest_count is_done x y g i; errors = newest_count is_error x y g i }

-- so it is after a pass
pub pass_finishes : (origin : SiteName) (x : SiteState) → finished_in (take (length (site_pass origin x).journal - length x.journal) (site_pass origin x).journal) ≡ pass_answer origin x
pass_finishes origin x = newest_finish x (site_pass origin x) (pass_grows origin x)

-- ---- entry by entry

take_more : {X : Type 0} (xs rest : List X) (n : ℕ) (x : X) → drop n xs ≡ x ∷ rest → take (suc n) xs ≡ take n xs ++ x ∷ []
take_more [] rest zero x next = absurd (cc next)
take_more [] rest (suc n) x next = absurd (cc next)
take_more (y ∷ ys) rest zero x next = let same : y ≡ x = cc next in ap (λ (z : _). z ∷ []) same
take_more (y ∷ ys) rest (suc n) x next = ap (λ (zs : List _). y ∷ zs) (take_more ys rest n x next)

count_more : (test : Entry → Bool) (journal rest : List Entry) (behind : ℕ) (e : Entry) → drop behind journal ≡ e ∷ rest
    → count_where test (take behind journal) + count_where test (e ∷ []) ≡ count_where test (take (behind + 1) journal)
count_more test journal rest behind e next = rw (add-one behind) (sym (ap (count_where test) (take_more journal rest behind e next) ∙ count_where-append test (take behind journal) (e ∷ [])))

module _ (journal rest : List Entry) (behind : ℕ) (e : Entry) (next : drop behind journal ≡ e ∷ rest) (count : PassCount) (is : count ≡ finished_in (take behind journal)) where
  -- what the newest entries finished, with one more
  pub finished_more : (more : PassCount) → more.done ≡ count.done + count_where is_done (e ∷ []) → more.errors ≡ count.errors + count_where is_error (e ∷ []) → more ≡ finished_in (take (behind + 1) journal)
  finished_more more done errors = λ i. record {
    done = (done ∙ ap (λ (c : PassCount). c.done + count_where is_done (e ∷ [])) is ∙ count_more is_done journal rest behind e next) i;
    errors = (errors ∙ ap (λ (c : PassCount). c.errors + count_where is_error (e ∷ [])) is ∙ count_more is_error journal rest behind e next) i;
  }

-- so many entries finish at most so many
pub finished-within : (journal : List Entry) (behind : ℕ) (count : PassCount) → count ≡ finished_in (take behind journal) → (count.done ≤ behind) × (count.errors ≤ behind)
finished-within journal behind count is =
    let short : length (take behind journal) ≤ behind = simp length-take (omega arith) in
    (rw is (omega (arith, short, count_at_most is_done (take behind journal))), rw is (omega (arith, short, count_at_most is_error (take behind journal))))
