-- The streams of a site's queue, and what each of their transactions depends on.
use Rattle.std.proofs.Common.{◌≡◌, ℕ, suc, ◌+◌, ◌<◌, ◌≤◌, ◌==◌, List, [], ◌∷◌, length, map, Bool, true, false, cond, Some, None, refl, sym, ap, ◌∙◌, arith}
use Rattle.std.specs.Prelude.{◌||◌, Option}
use Rattle.std.proofs.lemmas.Bool.Decides.{nat_tests}
use Rattle.std.proofs.lemmas.List.{length-map}
use Rattle.rep_values.specs.declared.name.SiteName.{SiteName}
use Rattle.rep_calls.specs.declared.call.Txn.{Txn}
use Rattle.dependency_index.specs.Tokens.{share_token}
use Rattle.dependency_index.proofs.NotedTokens.{last_where-bound}
use Rattle.deferred_queue.specs.declared.queued_txn.QueuedTxn.{QueuedTxn}
use Rattle.deferred_queue.specs.declared.destination.Destination.{Destination}
use Rattle.deferred_queue.specs.Streams.{InStream, destination_to, with_one, queue_stream_to, at_position, last_position}
use Rattle.rep_values.specs.SiteNames.{is_same_site}
use Rattle.deferred_queue.proofs.Positions.{found_position}
use Rattle.deferred_queue.proofs.Sites.{is_same_site-true}
use Rattle.site_state.specs.State.{arrival_beside}
use Rattle.rep_schema.specs.Sites.{is_among}
use Rattle.site_state.specs.Streams.{with_one as with_txn}
use Rattle.site_state.proofs.Stepping.{found_at}
use Rattle.site_state.proofs.FittingSites.{arrival_has}
use Rattle.proc_state.specs.Carriers.{proc_tokens, shares, dependency_of}
use Rattle.proc_state.specs.State.{stream_in, destination_behind, deferred_in, proc_queue, own_txns}
use Rattle.proc_state.specs.Laws.{DependsOnSharers, StreamsDependOnSharers, IsOfStream, StreamsArriveWellNumbered}

-- what stands in a queue's stream to a site is the transactions that have it among their destinations, each with its
-- dependency number behind those before it
abbrev pub Numbers : List InStream → List Txn → Type 0
Numbers [] [] = Unit {0}
Numbers [] (txn ∷ txns) = ⊥
Numbers (s ∷ ss) [] = ⊥
Numbers (s ∷ ss) (txn ∷ txns) = (s.cargo ≡ Some (record { txn = txn; past = [] })) × (s.dep ≡ dependency_of txn txns) × Numbers ss txns

-- ---- destinations

-- a site is found among destinations where it is listed, with its own dependency number
abbrev IsFound : SiteName → List (List SiteName) → List Txn → Txn → Bool → Option Destination → Type 0
IsFound site lists txns txn true None = ⊥
IsFound site lists txns txn true (Some d) = d.dep ≡ dependency_of txn (stream_in site lists txns)
IsFound site lists txns txn false None = Unit {0}
IsFound site lists txns txn false (Some d) = ⊥

found_behind : (site : SiteName) (lists : List (List SiteName)) (txns : List Txn) (txn : Txn) (to : List SiteName)
    → IsFound site lists txns txn (is_among to site) (destination_to site (map (destination_behind lists txns txn) to))
found_behind site lists txns txn [] = tt
found_behind site lists txns txn (name ∷ names) = go (is_same_site name site) refl (found_behind site lists txns txn names)
  where
    rest : Option Destination
    rest = destination_to site (map (destination_behind lists txns txn) names)

    go : (b : Bool) → is_same_site name site ≡ b → IsFound site lists txns txn (is_among names site) rest
        → IsFound site lists txns txn (b || is_among names site) (cond b (Some (destination_behind lists txns txn name)) rest)
    go true same later = ap (λ (s : SiteName). dependency_of txn (stream_in s lists txns)) (is_same_site-true name site same)
    go false same later = later

-- ---- streams

-- the stream to a site, as the queue has it
pub Numbers-deferred_in : (site : SiteName) (lists : List (List SiteName)) (txns : List Txn) → Numbers (queue_stream_to site (deferred_in lists txns)) (stream_in site lists txns)
Numbers-deferred_in site [] txns = tt
Numbers-deferred_in site (to ∷ lists) [] = tt
Numbers-deferred_in site (to ∷ lists) (txn ∷ txns) =
    go (is_among to site) (destination_to site (map (destination_behind lists txns txn) to)) (found_behind site lists txns txn to) (Numbers-deferred_in site lists txns)
  where
    cargo : Option QueuedTxn
    cargo = Some (record { txn = txn; past = [] })

    older : List InStream
    older = queue_stream_to site (deferred_in lists txns)

    go : (b : Bool) (d : Option Destination) → IsFound site lists txns txn b d → Numbers older (stream_in site lists txns)
        → Numbers (with_one d (length (deferred_in lists txns) + 1) cargo older) (with_txn b txn (stream_in site lists txns))
    go true None found later = absurd found
    go true (Some d) found later = (refl, found, later)
    go false None found later = later
    go false (Some d) found later = absurd found

-- so it has as many positions as the site has transactions
length-Numbers : (ss : List InStream) (txns : List Txn) → Numbers ss txns → length ss ≡ length txns
length-Numbers [] [] numbers = refl
length-Numbers [] (txn ∷ txns) numbers = absurd numbers
length-Numbers (s ∷ ss) [] numbers = absurd numbers
length-Numbers (s ∷ ss) (txn ∷ txns) numbers = ap suc (length-Numbers ss txns numbers.2)

pub last_position-deferred_in : (site : SiteName) (lists : List (List SiteName)) (txns : List Txn) → last_position site (deferred_in lists txns) ≡ length (stream_in site lists txns)
last_position-deferred_in site lists txns = length-Numbers (queue_stream_to site (deferred_in lists txns)) (stream_in site lists txns) (Numbers-deferred_in site lists txns)

-- a dependency number is at most the number of those before
pub dependency_of-within : (txn : Txn) (txns : List Txn) → dependency_of txn txns ≤ length txns
dependency_of-within txn txns = omega (arith, last_where-bound (share_token (proc_tokens txn)) (map proc_tokens txns), length-map txns proc_tokens)

-- and at least the position of each that shares a token
dependency_of-covers : (txn : Txn) (ss : List InStream) (txns : List Txn) (p : ℕ) (a : InStream) (other : QueuedTxn) → Numbers ss txns → at_position p ss ≡ Some a → a.cargo ≡ Some other → shares txn other.txn ≡ true
    → p ≤ dependency_of txn txns
dependency_of-covers txn [] txns p a other numbers there is shared = absurd (cc there)
dependency_of-covers txn (s ∷ ss) [] p a other numbers there is shared = absurd numbers
dependency_of-covers txn (s ∷ ss) (t ∷ txns) p a other numbers there is shared =
    go (p == length ss + 1) refl there (shares txn t) refl (λ later. dependency_of-covers txn ss txns p a other numbers.2 later is shared)
  where
    long : length ss ≡ length txns
    long = length-Numbers ss txns numbers.2

    first : s ≡ a → t ≡ other.txn
    first same =
        let both : Some (record { txn = t; past = [] }) ≡ Some other = sym numbers.0 ∙ ap (λ (x : InStream). x.cargo) same ∙ is in
        let one : record { txn = t; past = [] } ≡ other = cc both in
        ap (λ (x : QueuedTxn). x.txn) one

    go : (b : Bool) → (p == length ss + 1) ≡ b → cond b (Some s) (at_position p ss) ≡ Some a → (c : Bool) → shares txn t ≡ c → (at_position p ss ≡ Some a → p ≤ dependency_of txn txns)
        → p ≤ cond c (length (map proc_tokens txns) + 1) (dependency_of txn txns)
    go true at found true shared_here later = let here : p ≡ length ss + 1 = grind (arith, nat_tests) in omega (arith, here, long, length-map txns proc_tokens)
    go true at found false shared_here later =
        let same : s ≡ a = cc found in
        let wrong : shares txn t ≡ true = rw (first same) shared in
        absurd (cc (wrong, shared_here))
    go false at found true shared_here later = omega (arith, (found_position p ss a found).1, long, length-map txns proc_tokens)
    go false at found false shared_here later = later found

-- ---- the law

depends_in : (ss : List InStream) (txns : List Txn) (position : ℕ) (s : InStream) (cargo : QueuedTxn) → Numbers ss txns → at_position position ss ≡ Some s → s.cargo ≡ Some cargo → DependsOnSharers ss position s cargo
depends_in [] txns position s cargo numbers there is = absurd (cc there)
depends_in (x ∷ ss) [] position s cargo numbers there is = absurd numbers
depends_in (x ∷ ss) (t ∷ txns) position s cargo numbers there is = go (position == length ss + 1) refl there (λ later. depends_in ss txns position s cargo numbers.2 later is)
  where
    long : length ss ≡ length txns
    long = length-Numbers ss txns numbers.2

    below : (p : ℕ) (a : InStream) → p < length ss + 1 → at_position p (x ∷ ss) ≡ Some a → at_position p ss ≡ Some a
    below p a less found = let off : (p == length ss + 1) ≡ false = grind (arith, nat_tests, less) in rw off at found

    newest : x ≡ s → position ≡ length ss + 1 → DependsOnSharers (x ∷ ss) position s cargo
    newest same here =
        let carries : Some (record { txn = t; past = [] }) ≡ Some cargo = sym numbers.0 ∙ ap (λ (y : InStream). y.cargo) same ∙ is in
        let one : record { txn = t; past = [] } ≡ cargo = cc carries in
        let mine : t ≡ cargo.txn = ap (λ (y : QueuedTxn). y.txn) one in
        let dep : s.dep ≡ dependency_of t txns = sym (ap (λ (y : InStream). y.dep) same) ∙ numbers.1 in
        record {
          earlier = omega (arith, dep, here, dependency_of-within t txns, long);
          sharers = λ p a other less found kept shared.
              rw dep (dependency_of-covers t ss txns p a other numbers.2 (below p a (omega (arith, less, here)) found) kept (rw mine shared));
        }

    older : position ≤ length ss → DependsOnSharers ss position s cargo → DependsOnSharers (x ∷ ss) position s cargo
    older within depends = record {
      earlier = depends.earlier;
      sharers = λ p a other less found kept shared. depends.sharers p a other less (below p a (omega (arith, less, within)) found) kept shared;
    }

    go : (b : Bool) → (position == length ss + 1) ≡ b → cond b (Some x) (at_position position ss) ≡ Some s → (at_position position ss ≡ Some s → DependsOnSharers ss position s cargo)
        → DependsOnSharers (x ∷ ss) position s cargo
    go true at found later = let same : x ≡ s = cc found in newest same (grind (arith, nat_tests))
    go false at found later = older (found_position position ss s found).1 (later found)

pub streams_depend_on_sharers : StreamsDependOnSharers
streams_depend_on_sharers x site position s cargo there is =
    depends_in (queue_stream_to site (proc_queue x)) (stream_in site x.lists (own_txns x.journal)) position s cargo (Numbers-deferred_in site x.lists (own_txns x.journal)) there is

-- what arrives of a stream is well numbered
pub streams_arrive_well_numbered : StreamsArriveWellNumbered
streams_arrive_well_numbered sender site arrived all p q a b there_p there_q less shared =
    let early = arrival_has (IsOfStream sender site) (arrival_beside p) arrived a all there_p in
    let late = arrival_has (IsOfStream sender site) (arrival_beside q) arrived b all there_q in
    let at_p : a.position ≡ p = found_at p arrived a there_p in
    let at_q : b.position ≡ q = found_at q arrived b there_q in
    let depends = streams_depend_on_sharers sender site b.position late.sent late.cargo late.there late.carries in
    let within : a.position ≤ late.sent.dep =
    depends.sharers a.position early.sent early.cargo (omega (arith, at_p, at_q, less)) early.there early.carries (rw (← late.txn, ← early.txn) shared) in
    omega (arith, within, at_p, late.dep)
