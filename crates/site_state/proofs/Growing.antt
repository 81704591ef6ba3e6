-- Queues and streams only get more in front, and the dependency numbers in them stay.
use Rattle.std.proofs.Common.{◌≡◌, ℕ, suc, ◌+◌, ◌<◌, ◌≤◌, ◌==◌, List, [], ◌∷◌, ◌++◌, length, map, Bool, true, false, cond, Some, refl, ap, arith, length-append, reverse}
use Rattle.std.specs.Prelude.{nat_lt}
use Rattle.std.proofs.lemmas.Bool.Decides.{nat_tests}
use Rattle.std.proofs.lemmas.List.{length-map, reverse-append}
use Rattle.rep_schema.specs.declared.schema.Schema.{Schema}
use Rattle.rep_schema.specs.Tables.{Rows}
use Rattle.rep_calls.specs.declared.call.Txn.{Txn}
use Rattle.dependency_index.specs.Tokens.{txn_tokens, share_token}
use Rattle.dependency_index.specs.Dependencies.{last_where}
use Rattle.dependency_index.proofs.NotedTokens.{last_where-bound}
use Rattle.txn_effects.specs.declared.local.Here.{Here}
use Rattle.deferred_queue.specs.Streams.{at_position}
use Rattle.deferred_queue.proofs.Positions.{found_position}
use Rattle.site_state.specs.declared.entry.Entry.{Entry}
use Rattle.site_state.specs.declared.entry.Entry.TheVariants.{Local, Done, Error, Executed, Dropped, Refreshed}
use Rattle.site_state.specs.Streams.{with_one, went_onward, onward_txn, queue_after, queued_behind, shares, dependency_of, dep_at}

-- a list is another one with more in front
pub record IsFront {X : Type 0} (ys xs : List X) : Type 0 where
  pub front : List X
  pub is : ys ≡ front ++ xs

pub front_none : {X : Type 0} (xs : List X) → IsFront xs xs
front_none xs = record { front = []; is = refl }

front_one : {X : Type 0} (b : Bool) (x : X) (ys xs : List X) → IsFront ys xs → IsFront (with_one b x ys) xs
front_one true x ys xs more = record { front = x ∷ more.front; is = ap (λ zs. x ∷ zs) more.is }
front_one false x ys xs more = more

-- ---- queues

-- what more entries queue stands in front
pub queue_after-append : (schema : Schema) (here : Here) (base : List Rows) (new journal : List Entry) → IsFront (queue_after schema here base (new ++ journal)) (queue_after schema here base journal)
queue_after-append schema here base [] journal = front_none _
queue_after-append schema here base (Local number txn ∷ new) journal = front_one true txn _ _ (queue_after-append schema here base new journal)
queue_after-append schema here base (Done o p onward txn ∷ new) journal =
    front_one (went_onward here onward) (onward_txn schema here base (new ++ journal) o txn) _ _ (queue_after-append schema here base new journal)
queue_after-append schema here base (Error o p call error txn ∷ new) journal = queue_after-append schema here base new journal
queue_after-append schema here base (Executed o p onward txn ∷ new) journal =
    front_one (went_onward here onward) (onward_txn schema here base (new ++ journal) o txn) _ _ (queue_after-append schema here base new journal)
queue_after-append schema here base (Dropped o p ∷ new) journal = queue_after-append schema here base new journal
queue_after-append schema here base (Refreshed moment ∷ new) journal = queue_after-append schema here base new journal

-- a site that is no master has queued its own transactions alone, whatever its base rows are
pub queue_after-rebased : (schema : Schema) (here : Here) (base other : List Rows) (journal : List Entry) → here.is_master ≡ false
    → queue_after schema here base journal ≡ queue_after schema here other journal
queue_after-rebased schema here base other [] is = refl
queue_after-rebased schema here base other (Local number txn ∷ es) is = ap (λ txns. txn ∷ txns) (queue_after-rebased schema here base other es is)
queue_after-rebased schema here base other (Done o p onward txn ∷ es) is = rw is (queue_after-rebased schema here base other es is)
queue_after-rebased schema here base other (Error o p call error txn ∷ es) is = queue_after-rebased schema here base other es is
queue_after-rebased schema here base other (Executed o p onward txn ∷ es) is = rw is (queue_after-rebased schema here base other es is)
queue_after-rebased schema here base other (Dropped o p ∷ es) is = queue_after-rebased schema here base other es is
queue_after-rebased schema here base other (Refreshed moment ∷ es) is = queue_after-rebased schema here base other es is

-- ---- what was queued behind a count, and positions

module _ {X : Type 0} where
  pub queued_behind-append : (opened : ℕ) (front xs : List X) → IsFront (queued_behind opened (front ++ xs)) (queued_behind opened xs)
  queued_behind-append opened [] xs = front_none _
  queued_behind-append opened (x ∷ front) xs = front_one (nat_lt opened (length (front ++ xs) + 1)) x _ _ (queued_behind-append opened front xs)

  -- nothing was queued behind the present count
  pub queued_behind-none : (opened : ℕ) (xs : List X) → length xs ≤ opened → queued_behind opened xs ≡ []
  queued_behind-none opened [] within = refl
  queued_behind-none opened (x ∷ xs) within =
      let not_behind : nat_lt opened (length xs + 1) ≡ false = grind (arith, nat_tests) in
      rw not_behind (queued_behind-none opened xs (omega (arith, within)))

  -- behind a count there is the whole count less that
  pub length-queued_behind : (opened : ℕ) (xs : List X) → opened ≤ length xs → length (queued_behind opened xs) + opened ≡ length xs
  length-queued_behind opened [] within = omega (arith, within)
  length-queued_behind opened (x ∷ xs) within = go (nat_lt opened (length xs + 1)) refl (length-queued_behind opened xs)
    where
      go : (b : Bool) → nat_lt opened (length xs + 1) ≡ b → (opened ≤ length xs → length (queued_behind opened xs) + opened ≡ length xs)
          → length (with_one b x (queued_behind opened xs)) + opened ≡ suc (length xs)
      go true is later = let under : opened < length xs + 1 = grind (arith, nat_tests) in omega (arith, later (omega (arith, under)))
      go false is later =
          let over : length xs + 1 ≤ opened = grind (arith, nat_tests) in
          let none : queued_behind opened xs ≡ [] = queued_behind-none opened xs (omega (arith, over)) in
          rw none (omega (arith, over, within))

  -- what stands at a position stays there
  pub at_position-append : (front xs : List X) (p : ℕ) (x : X) → at_position p xs ≡ Some x → at_position p (front ++ xs) ≡ Some x
  at_position-append [] xs p x is = is
  at_position-append (y ∷ front) xs p x is =
      let within : p ≤ length xs = (found_position p xs x is).1 in
      let off : (p == length (front ++ xs) + 1) ≡ false = grind (arith, nat_tests, within, length-append front xs) in
      rw off (at_position-append front xs p x is)

  -- what stands at a position within the older part stood there before
  pub at_position-older : (front xs : List X) (p : ℕ) → p ≤ length xs → at_position p (front ++ xs) ≡ at_position p xs
  at_position-older [] xs p within = refl
  at_position-older (y ∷ front) xs p within =
      let off : (p == length (front ++ xs) + 1) ≡ false = grind (arith, nat_tests, within, length-append front xs) in
      rw off (at_position-older front xs p within)

-- ---- dependency numbers

-- more in front changes no dependency number
pub dep_at-append : (schema : Schema) (front xs : List Txn) (p : ℕ) → p ≤ length xs → dep_at schema p (front ++ xs) ≡ dep_at schema p xs
dep_at-append schema [] xs p within = refl
dep_at-append schema (y ∷ front) xs p within =
    let off : (p == length (front ++ xs) + 1) ≡ false = grind (arith, nat_tests, within, length-append front xs) in
    rw off (dep_at-append schema front xs p within)

last_where-covers : {X Y : Type 0} (f : X → Y) (holds : Y → Bool) (xs : List X) (p : ℕ) (x : X) → at_position p xs ≡ Some x → holds (f x) ≡ true → p ≤ last_where holds (map f xs)
last_where-covers f holds [] p x found is = absurd (cc found)
last_where-covers f holds (y ∷ ys) p x found is = go (holds (f y)) refl (p == length ys + 1) refl (last_where-covers f holds ys p x) found
  where
    go : (b : Bool) → holds (f y) ≡ b → (c : Bool) → (p == length ys + 1) ≡ c → (at_position p ys ≡ Some x → holds (f x) ≡ true → p ≤ last_where holds (map f ys))
        → cond c (Some y) (at_position p ys) ≡ Some x → p ≤ cond b (length (map f ys) + 1) (last_where holds (map f ys))
    go true here true at later found = let place : p ≡ length ys + 1 = grind (arith, nat_tests) in omega (arith, place, length-map ys f)
    go true here false at later found = omega (arith, (found_position p ys x found).1, length-map ys f)
    go false here true at later found = let same : y ≡ x = cc found in absurd (cc (here, is, same))
    go false here false at later found = later found is

-- an earlier position that shares a token is at most the dependency number
pub dep_at-covers : (schema : Schema) (stream : List Txn) (p q : ℕ) (t u : Txn) → at_position p stream ≡ Some t → at_position q stream ≡ Some u → p < q → shares schema u t ≡ true → p ≤ dep_at schema q stream
dep_at-covers schema [] p q t u at_p at_q less shared = absurd (cc at_q)
dep_at-covers schema (x ∷ xs) p q t u at_p at_q less shared = go (q == length xs + 1) refl (p == length xs + 1) refl at_p at_q (dep_at-covers schema xs p q t u)
  where
    go : (b : Bool) → (q == length xs + 1) ≡ b → (c : Bool) → (p == length xs + 1) ≡ c → cond c (Some x) (at_position p xs) ≡ Some t → cond b (Some x) (at_position q xs) ≡ Some u
        → (at_position p xs ≡ Some t → at_position q xs ≡ Some u → p < q → shares schema u t ≡ true → p ≤ dep_at schema q xs)
        → p ≤ cond b (dependency_of schema x xs) (dep_at schema q xs)
    go true is_q true is_p at_p at_q later = absurd (grind (arith, nat_tests, less))
    go true is_q false is_p at_p at_q later = let same : x ≡ u = cc at_q in last_where-covers (txn_tokens schema) (share_token (txn_tokens schema x)) xs p t at_p (rw same shared)
    go false is_q true is_p at_p at_q later = absurd (grind (arith, nat_tests, less, (found_position q xs u at_q).1))
    go false is_q false is_p at_p at_q later = later at_p at_q less shared

-- each position depends on an earlier one, or on none
pub dep_at-earlier : (schema : Schema) (stream : List Txn) (p : ℕ) (t : Txn) → at_position p stream ≡ Some t → dep_at schema p stream < p
dep_at-earlier schema [] p t found = absurd (cc found)
dep_at-earlier schema (x ∷ xs) p t found = go (p == length xs + 1) refl found (dep_at-earlier schema xs p t)
  where
    go : (b : Bool) → (p == length xs + 1) ≡ b → cond b (Some x) (at_position p xs) ≡ Some t → (at_position p xs ≡ Some t → dep_at schema p xs < p) → cond b (dependency_of schema x xs) (dep_at schema p xs) < p
    go true is found later =
        let place : p ≡ length xs + 1 = grind (arith, nat_tests) in
        omega (arith, place, last_where-bound (share_token (txn_tokens schema x)) (map (txn_tokens schema) xs), length-map xs (txn_tokens schema))
    go false is found later = later found

-- one more at the end is one more in front of the list turned around
pub reverse_push : {X : Type 0} (xs : List X) (x : X) → reverse (xs ++ x ∷ []) ≡ x ∷ reverse xs
reverse_push xs x = reverse-append xs (x ∷ [])

-- the same, where the list and the list with one more are known by equations
pub one_entry_more : {X : Type 0} (old same new : List X) (x : X) → new ≡ same ++ x ∷ [] → same ≡ old → reverse new ≡ x ∷ reverse old
one_entry_more old same new x pushed is = rw (pushed, is) (reverse_push old x)
