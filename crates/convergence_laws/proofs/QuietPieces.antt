-- What quiet says of a master: it has settled all that other masters queued, and so has all that they queued since.
use Rattle.std.proofs.Common.{◌≡◌, ◌≢◌, ℕ, zero, suc, ◌+◌, ◌-◌, ◌<◌, ◌≤◌, ◌==◌, List, [], ◌∷◌, ◌++◌, length, map, Bool, true, false, cond, Some, None, refl, sym, ap, ◌∙◌, subst, arith}
use Rattle.std.specs.Prelude.{◌||◌, ◌&&◌, Option, not, nat_le, nat_lt, filter, sum, sum_by, count_by, flat_map, filter_map}
use Rattle.std.specs.List.{AllByRecursion, list_all, range_with_len, cons_option}
use mathlib.Core.Bool.{true≢false}
use Rattle.std.proofs.lemmas.Bool.Decides.{nat_tests}
use Rattle.std.proofs.lemmas.List.Sums.{sum_by-cons}
use Rattle.std.proofs.lemmas.Bool.{eqb-true}
use Rattle.rep_lists.specs.Rising.{find_at}
use Rattle.rep_values.specs.declared.name.SiteName.{SiteName}
use Rattle.rep_schema.specs.declared.schema.Schema.{Schema}
use Rattle.rep_calls.specs.declared.past.PastEntry.{PastEntry}
use Rattle.rep_calls.specs.declared.call.Txn.{Txn}
use Rattle.rep_laws.specs.Commuting.{IsSound}
use Rattle.rep_values.specs.SiteNames.{is_same_site}
use Rattle.deferred_queue.proofs.Sites.{is_same_site-true, is_same_site-refl}
use Rattle.packet_code.specs.declared.packet.Packet.{Packet}
use Rattle.error_queue.specs.declared.entry.ErrorEntry.{ErrorEntry}
use Rattle.site_state.specs.declared.arrival.Arrival.{Arrival}
use Rattle.site_state.specs.declared.entry.Entry.{Entry}
use Rattle.site_state.specs.State.{SenderState, SiteState, sender_of, arrived_in, arrival_beside, arrived_at, opened_of}
use Rattle.rep_schema.specs.Sites.{is_master_site}
use Rattle.site_state.specs.Journal.{finished, error_at}
use Rattle.site_state.specs.Streams.{queue_of, count_of, stream_in, stream_to}
use Rattle.site_state.specs.Errors.{errors_from, errors_of}
use Rattle.site_state.specs.Joining.{unfinished_of, master_errors}
use Rattle.site_state.specs.Packets.{count_opened}
use Rattle.site_state.proofs.Growing.{length-queued_behind}
use Rattle.site_state.proofs.Stepping.{error_found, found_at}
use Rattle.site_state.proofs.FittingSites.{arrival_has}
use Rattle.site_events.specs.Cluster.{site_of}
use Rattle.site_events.specs.Quiet.{is_other_master, last_position_to, last_positions, unquiet_at, is_quiet_at, are_quiet}
use Rattle.event_laws.proofs.Sites.{found_name}
use Rattle.event_laws.proofs.Meeting.{SiteMeets, MeetsAt}
use Rattle.convergence_laws.proofs.Moves.{DecisionLaws}
use Rattle.rep_laws.proofs.ConvergentRows.{both_hold}
use Rattle.convergence_laws.proofs.Reordering.{chosen, chosen-same, above}
use Rattle.event_laws.proofs.OpenMasters.{masters_open}
use Rattle.convergence_laws.proofs.Applied.{is_applied, FinishedWithoutError, error_finished}
use Rattle.convergence_laws.proofs.Families.{masters_of, Are-masters, joined_by, joined_same, queue_in, count_for, count_in, has_number, piece_of, pieces_of}
use Rattle.convergence_laws.proofs.Facts.{Facts, declared_master}
use Rattle.convergence_laws.proofs.Since.{AreTwo, IsSince, since_now}

-- ---- sums that are 0

sum_none : {X : Type 0} (f : X → ℕ) (xs : List X) → sum_by f xs ≡ 0 → AllByRecursion (λ x. f x ≡ 0) xs
sum_none f [] none = tt
sum_none f (x ∷ xs) none = let both : f x + sum_by f xs ≡ 0 = sym (sum_by-cons f x xs) ∙ none in (omega (arith, both), sum_none f xs (omega (arith, both)))

count_none : {X : Type 0} (test : X → Bool) (xs : List X) → count_by test xs ≡ 0 → AllByRecursion (λ x. test x ≡ false) xs
count_none {X} test xs none = go xs (sum_none (λ x. cond {A = ℕ} (test x) 1 0) xs none)
  where
    off : (b : Bool) → cond {A = ℕ} b 1 0 ≡ 0 → b ≡ false
    off true e = absurd (omega (arith, e))
    off false e = refl

    go : (xs : List X) → AllByRecursion (λ x. cond {A = ℕ} (test x) 1 0 ≡ 0) xs → AllByRecursion (λ x. test x ≡ false) xs
    go [] all = tt
    go (x ∷ xs) all = (off (test x) all.0, go xs all.1)

in_range : (P : ℕ → Type 0) (from n p : ℕ) → AllByRecursion P (range_with_len from n) → from ≤ p → p < from + n → P p
in_range P from zero p all low high = absurd (omega (arith, low, high))
in_range P from (suc n) p all low high = go (from == p) refl (λ above. in_range P (from + 1) n p all.1 above (omega (arith, high)))
  where
    go : (b : Bool) → (from == p) ≡ b → (from + 1 ≤ p → P p) → P p
    go true is later = subst P (eqb-true from p is) all.0
    go false is later = later (grind (arith, nat_tests, low))

-- ---- what hinders quiet nowhere

quiet_at : (all sites : List SiteState) (name : SiteName) (x : SiteState) → list_all (is_quiet_at all) (filter (λ (x : SiteState). x.here.is_master) sites) ≡ true → site_of name sites ≡ Some x → x.here.is_master ≡ true → is_quiet_at all x ≡ true
quiet_at all [] name x quiet found master = cc
quiet_at all (s ∷ ss) name x quiet found master = go (is_same_site s.here.site name) s.here.is_master refl found quiet (λ later found. quiet_at all ss name x later found master)
  where
    go : (b m : Bool) → s.here.is_master ≡ m → cond b (Some s) (site_of name ss) ≡ Some x → list_all (is_quiet_at all) (cond m (s ∷ filter (λ (x : SiteState). x.here.is_master) ss) (filter (λ (x : SiteState). x.here.is_master) ss)) ≡ true
        → (list_all (is_quiet_at all) (filter (λ (x : SiteState). x.here.is_master) ss) ≡ true → site_of name ss ≡ Some x → is_quiet_at all x ≡ true) → is_quiet_at all x ≡ true
    go true true is found quiet later = let same : s ≡ x = cc in subst (λ (u : SiteState). is_quiet_at all u ≡ true) same (both_hold (is_quiet_at all s) (list_all (is_quiet_at all) (filter (λ (x : SiteState). x.here.is_master) ss)) quiet).0
    go true false is found quiet later = let same : s ≡ x = cc in absurd (true≢false (sym master ∙ ap (λ (u : SiteState). u.here.is_master) (sym same) ∙ is))
    go false true is found quiet later = later (both_hold (is_quiet_at all s) (list_all (is_quiet_at all) (filter (λ (x : SiteState). x.here.is_master) ss)) quiet).1 found
    go false false is found quiet later = later quiet found

last_none : (site : SiteName) (x : SiteState) (sites : List SiteState) (name : SiteName) (y : SiteState) → AllByRecursion (λ (last : PastEntry). unfinished_of x last ≡ 0) (map (last_position_to site) (filter (is_other_master site) sites))
    → site_of name sites ≡ Some y → is_other_master site y ≡ true → unfinished_of x (last_position_to site y) ≡ 0
last_none site x [] name y all found other = cc
last_none site x (s ∷ ss) name y all found other = go (is_same_site s.here.site name) (is_other_master site s) refl found all (λ rest found. last_none site x ss name y rest found other)
  where
    go : (b m : Bool) → is_other_master site s ≡ m → cond b (Some s) (site_of name ss) ≡ Some y
        → AllByRecursion (λ (last : PastEntry). unfinished_of x last ≡ 0) (map (last_position_to site) (cond m (s ∷ filter (is_other_master site) ss) (filter (is_other_master site) ss)))
        → (AllByRecursion (λ (last : PastEntry). unfinished_of x last ≡ 0) (map (last_position_to site) (filter (is_other_master site) ss)) → site_of name ss ≡ Some y → unfinished_of x (last_position_to site y) ≡ 0)
        → unfinished_of x (last_position_to site y) ≡ 0
    go true true is found all later = let same : s ≡ y = cc in subst (λ (u : SiteState). unfinished_of x (last_position_to site u) ≡ 0) same all.0
    go true false is found all later = let same : s ≡ y = cc in absurd (true≢false (sym other ∙ ap (is_other_master site) (sym same) ∙ is))
    go false true is found all later = later all.1 found
    go false false is found all later = later all found

of_map : {X Y : Type 0} (f : X → Y) (P : Y → Type 0) (xs : List X) → AllByRecursion P (map f xs) → AllByRecursion (λ x. P (f x)) xs
of_map f P [] all = tt
of_map f P (x ∷ xs) all = (all.0, of_map f P xs all.1)

-- ---- errors

of_append : {X : Type 0} (P : X → Type 0) (xs ys : List X) → AllByRecursion P (xs ++ ys) → AllByRecursion P xs × AllByRecursion P ys
of_append P [] ys all = (tt, all)
of_append P (x ∷ xs) ys all = let rest = of_append P xs ys all.1 in ((all.0, rest.0), rest.1)

of_found : (P : ErrorEntry → Type 0) (journal : List Entry) (origin : SiteName) (arrived : List Arrival) → AllByRecursion P (filter_map (λ (a : Arrival). error_at origin a.position journal) arrived)
    → AllByRecursion (λ (a : Arrival). (e : ErrorEntry) → error_at origin a.position journal ≡ Some e → P e) arrived
of_found P journal origin [] all = tt
of_found P journal origin (a ∷ arrived) all = go (error_at origin a.position journal) refl all (of_found P journal origin arrived)
  where
    go : (o : Option ErrorEntry) → error_at origin a.position journal ≡ o → AllByRecursion P (cons_option o (filter_map (λ (a : Arrival). error_at origin a.position journal) arrived))
        → (AllByRecursion P (filter_map (λ (a : Arrival). error_at origin a.position journal) arrived) → AllByRecursion (λ (a : Arrival). (e : ErrorEntry) → error_at origin a.position journal ≡ Some e → P e) arrived)
        → AllByRecursion (λ (a : Arrival). (e : ErrorEntry) → error_at origin a.position journal ≡ Some e → P e) (a ∷ arrived)
    go None is all later = ((λ e at. absurd (cc (is, at))), later all)
    go (Some f) is all later = ((λ e at. let same : f ≡ e = cc in subst P same all.0), later all.1)

-- an error that stands at a position that arrived is in the queue of errors
error_queued : (P : ErrorEntry → Type 0) (journal : List Entry) (origin : SiteName) (position : ℕ) (ss : List SenderState) (a : Arrival) (e : ErrorEntry) → AllByRecursion P (flat_map (errors_from journal) ss)
    → arrived_at origin position ss ≡ Some a → error_at origin position journal ≡ Some e → P e
error_queued P journal origin position [] a e all there at = cc
error_queued P journal origin position (s ∷ ss) a e all there at =
    go (is_same_site s.origin origin) refl there (λ there. error_queued P journal origin position ss a e parts.1 there at)
  where
    parts : AllByRecursion P (errors_from journal s) × AllByRecursion P (flat_map (errors_from journal) ss)
    parts = of_append P (errors_from journal s) (flat_map (errors_from journal) ss) all

    go : (b : Bool) → is_same_site s.origin origin ≡ b → find_at (arrival_beside position) (arrived_in (cond b (Some s) (sender_of origin ss))) ≡ Some a → (arrived_at origin position ss ≡ Some a → P e) → P e
    go true is there later =
        let here : (f : ErrorEntry) → error_at s.origin a.position journal ≡ Some f → P f =
        arrival_has (λ (b : Arrival). (f : ErrorEntry) → error_at s.origin b.position journal ≡ Some f → P f) (arrival_beside position) s.arrived a (of_found P journal s.origin s.arrived parts.0) there in
        here e (rw (is_same_site-true s.origin origin is, found_at position s.arrived a there) at)
    go false is there later = later there

-- ---- a quiet master

module _ (schema : Schema) (sound : IsSound schema) (decides : DecisionLaws) (sites : List SiteState) (sent : List Packet) (facts : Facts schema sound decides sites sent) (quiet : are_quiet sites ≡ true)
    (name : SiteName) (x : SiteState) (found : site_of name sites ≡ Some x) (of_schema : x.schema ≡ schema) (master : x.here.is_master ≡ true) where
  nothing_hinders : unquiet_at sites x ≡ 0
  nothing_hinders = eqb-true (unquiet_at sites x) 0 (quiet_at sites sites name x quiet found master)

  each_finished : AllByRecursion (λ (last : PastEntry). unfinished_of x last ≡ 0) (last_positions x.here.site sites)
  each_finished = of_map (unfinished_of x) (λ n. n ≡ 0) (last_positions x.here.site sites) (sum_none (λ n. n) (map (unfinished_of x) (last_positions x.here.site sites)) (left (sum (map (unfinished_of x) (last_positions x.here.site sites))) (master_errors x) nothing_hinders))
    where
      left : (a b : ℕ) → a + b ≡ 0 → a ≡ 0
      left a b e = omega (arith, e)

  no_errors : AllByRecursion (λ (e : ErrorEntry). is_master_site x.schema e.origin ≡ false) (errors_of x)
  no_errors = count_none (λ (e : ErrorEntry). is_master_site x.schema e.origin) (errors_of x) (right (sum (map (unfinished_of x) (last_positions x.here.site sites))) (master_errors x) nothing_hinders)
    where
      right : (a b : ℕ) → a + b ≡ 0 → b ≡ 0
      right a b e = omega (arith, e)

  meets : SiteMeets sites name x
  meets = subst (MeetsAt sites name) found (facts.met.meets.each name)

  -- no error of a master stands
  none_stands : (origin : SiteName) (position : ℕ) → is_master_site schema origin ≡ true → error_at origin position x.journal ≡ None
  none_stands origin position named = go (error_at origin position x.journal) refl
    where
      go : (o : Option ErrorEntry) → error_at origin position x.journal ≡ o → o ≡ None
      go None is = refl
      go (Some e) is = absurd (by (arrived_at origin position x.senders) refl)
        where
          by : (a : Option Arrival) → arrived_at origin position x.senders ≡ a → ⊥
          by None none = meets.arrived origin position (error_finished origin position x.journal (λ n. absurd (cc (n, is)))) none
          by (Some a) there =
              let off = error_queued (λ (e : ErrorEntry). is_master_site x.schema e.origin ≡ false) x.journal origin position x.senders a e no_errors there is in
              let own : e.origin ≡ origin = (error_found origin position x.journal e is).0 in
              true≢false (sym named ∙ sym (ap (is_master_site schema) own) ∙ sym (ap (λ (s : Schema). is_master_site s e.origin) of_schema) ∙ off)

  -- all that another master queued is settled
  pub all_settled : (origin : SiteName) (o : SiteState) (position : ℕ) → AreTwo schema sites name origin x o → 1 ≤ position → count_for name (Some o) + position ≤ count_of o → FinishedWithoutError origin position x.journal
  all_settled origin o position two one le = record { done = done; none = none_stands origin position two.named }
    where
      own : x.here.site ≡ name
      own = found_name name sites x found

      o_master : o.here.is_master ≡ true
      o_master = declared_master schema sound decides sites sent facts origin o two.there ∙ two.named

      open_to : (count : ℕ) × (opened_of name o ≡ Some count) × (count ≤ count_of o)
      open_to = masters_open schema sound.shape sites sent facts.met name origin x o found two.there master o_master two.differ

      long : length (stream_to x.here.site o) + open_to.0 ≡ count_of o
      long = ap (λ (ts : List Txn). length ts + open_to.0) (ap (λ (s : SiteName). stream_to s o) own ∙ ap (λ c. stream_in c (queue_of o)) open_to.1) ∙ length-queued_behind open_to.0 (queue_of o) open_to.2

      within : position ≤ length (stream_to x.here.site o)
      within = by (count_for name (Some o)) open_to.0 (length (stream_to x.here.site o)) (count_of o) (ap count_opened open_to.1) long le
        where
          by : (c d l n : ℕ) → c ≡ d → l + d ≡ n → c + position ≤ n → position ≤ l
          by c d l n same long le = omega (arith, same, long, le)

      other : is_other_master x.here.site o ≡ true
      other = go (is_same_site origin x.here.site) refl
        where
          go : (b : Bool) → is_same_site origin x.here.site ≡ b → is_other_master x.here.site o ≡ true
          go true is = absurd (two.differ (is_same_site-true origin x.here.site is ∙ own))
          go false is = rw (o_master, found_name origin sites o two.there, is) refl

      done : finished origin x.journal position ≡ true
      done =
          let none = count_none (λ p. not (finished o.here.site x.journal p)) (range_with_len 1 (length (stream_to x.here.site o))) (last_none x.here.site x sites origin o each_finished two.there other) in
          let off : not (finished o.here.site x.journal position) ≡ false = in_range (λ p. not (finished o.here.site x.journal p) ≡ false) 1 (length (stream_to x.here.site o)) position none one (omega (arith, within)) in
          ap (λ (n : SiteName). finished n x.journal position) (sym (found_name origin sites o two.there)) ∙ on (finished o.here.site x.journal position) off
        where
          on : (b : Bool) → not b ≡ false → b ≡ true
          on true e = refl
          on false e = cc

  -- so a quiet master has all that was queued since the sites were as earlier
  module _ (earlier : List SiteState) (since : IsSince schema earlier sites) where
    abbrev least : SiteName → ℕ
    least n = count_in (site_of n earlier)

    has_all : (n : SiteName) (o : SiteState) → is_master_site schema n ≡ true → site_of n sites ≡ Some o → n ≢ name → (m : ℕ) → m ≤ count_of o
        → has_number x.journal n (least n) (count_for name (Some o)) m ≡ nat_lt (least n) m
    has_all n o named there differ m le = go (nat_lt (least n) m) refl
      where
        two : AreTwo schema sites name n x o
        two = record { found = found; master = master; there = there; named = named; differ = differ }

        none : (b : Bool) → (b && false) ≡ false
        none true = refl
        none false = refl

        has : least n < m → (b : Bool) → nat_le m (count_for name (Some o)) ≡ b → (b || is_applied n x.journal (m - count_for name (Some o))) ≡ true
        has since_then true is = refl
        has since_then false is =
            let over : count_for name (Some o) < m = grind (arith, nat_tests) in
            let back : count_for name (Some o) + (m - count_for name (Some o)) ≡ m = omega (arith, over) in
            since.applied name n x o (m - count_for name (Some o)) two (rw back since_then)
            (all_settled n o (m - count_for name (Some o)) two (omega (arith, over)) (rw back le))

        go : (b : Bool) → nat_lt (least n) m ≡ b → ((nat_le m (count_for name (Some o)) || is_applied n x.journal (m - count_for name (Some o))) && b) ≡ b
        go true is = let since_then : least n < m = grind (arith, nat_tests) in rw (has since_then (nat_le m (count_for name (Some o))) refl) refl
        go false is = none (nat_le m (count_for name (Some o)) || is_applied n x.journal (m - count_for name (Some o)))

    pub quiet_pieces : pieces_of schema earlier x sites ≡ joined_by (λ (n : SiteName). above (least n) (queue_in (site_of n sites))) (masters_of schema)
    quiet_pieces = joined_same (λ (n : SiteName). is_master_site schema n ≡ true) (λ (n : SiteName). piece_of (least n) x n (site_of n sites)) (λ (n : SiteName). above (least n) (queue_in (site_of n sites))) (masters_of schema) (Are-masters schema)
        (λ n named. subst (λ (s : SiteName). cond (is_same_site n s) (above (least n) (queue_in (site_of n sites))) (chosen (has_number x.journal n (least n) (count_for s (site_of n sites))) (queue_in (site_of n sites))) ≡ above (least n) (queue_in (site_of n sites)))
        (sym (found_name name sites x found)) (go n named (site_of n sites) refl (is_same_site n name) refl))
      where
        go : (n : SiteName) → is_master_site schema n ≡ true → (o : Option SiteState) → site_of n sites ≡ o → (b : Bool) → is_same_site n name ≡ b
            → cond b (above (least n) (queue_in o)) (chosen (has_number x.journal n (least n) (count_for name o)) (queue_in o)) ≡ above (least n) (queue_in o)
        go n named o there true is = refl
        go n named None there false is = refl
        go n named (Some o) there false is =
            let differ : n ≢ name = λ e. true≢false (sym (is_same_site-refl name) ∙ sym (ap (λ (k : SiteName). is_same_site k name) e) ∙ is) in
            chosen-same (has_number x.journal n (least n) (count_for name (Some o))) (nat_lt (least n)) (queue_of o) (λ m one le. has_all n o named there differ m le)

-- the sites as they are where the masters are quiet
pub quiet_since : (schema : Schema) (sound : IsSound schema) (decides : DecisionLaws) (sites : List SiteState) (sent : List Packet) → Facts schema sound decides sites sent → are_quiet sites ≡ true
    → ((name : SiteName) (x : SiteState) → site_of name sites ≡ Some x → x.schema ≡ schema) → IsSince schema sites sites
quiet_since schema sound decides sites sent facts quiet of_schema = since_now schema sound decides sites sent facts
    (λ name origin x o position two one le. all_settled schema sound decides sites sent facts quiet name x two.found (of_schema name x two.found) two.master origin o position two one le)
