-- Sites of procedures among others: one of them changes.
use Rattle.std.proofs.Common.{◌≡◌, ◌≤◌, List, [], ◌∷◌, Bool, true, false, cond, Some, None, refl, sym, ap, ◌∙◌, arith}
use Rattle.std.specs.Prelude.{Option}
use Rattle.std.specs.List.{AllByRecursion}
use Rattle.rep_values.specs.declared.name.SiteName.{SiteName}
use Rattle.rep_values.specs.SiteNames.{is_same_site}
use Rattle.deferred_queue.proofs.Sites.{is_same_site-true}
use Rattle.packet_code.specs.declared.packet.Packet.{Packet}
use Rattle.packet_code.specs.declared.packet.Packet.TheVariants.{Carry, Mark}
use Rattle.proc_state.specs.State.{ProcState}
use Rattle.world_state.specs.Procs.{proc_of, at_proc}
use Rattle.world_state.specs.CallPushes.{calls_from}
use Rattle.world_laws.specs.Streams.{low_at, IsOfStreams}
use Rattle.world_laws.specs.Built.{proc_names}
use Rattle.world_laws.proofs.Growing.{Grows, grows_same}

-- ---- one that is found

-- it has the name
pub name-proc_of : (name : SiteName) (sites : List ProcState) (x : ProcState) → proc_of name sites ≡ Some x → x.me ≡ name
name-proc_of name [] x found = absurd (cc found)
name-proc_of name (y ∷ ys) x found = go (is_same_site y.me name) refl found (name-proc_of name ys x)
  where
    go : (b : Bool) → is_same_site y.me name ≡ b → cond b (Some y) (proc_of name ys) ≡ Some x → (proc_of name ys ≡ Some x → x.me ≡ name) → x.me ≡ name
    go true is found later = let same : y ≡ x = cc found in rw (← same) (is_same_site-true y.me name is)
    go false is found later = later found

-- what holds of each holds of it
pub all-proc_of : (P : ProcState → Type 0) (name : SiteName) (sites : List ProcState) (x : ProcState) → AllByRecursion P sites → proc_of name sites ≡ Some x → P x
all-proc_of P name [] x all found = absurd (cc found)
all-proc_of P name (y ∷ ys) x all found = go (is_same_site y.me name) found (all-proc_of P name ys x all.1)
  where
    go : (b : Bool) → cond b (Some y) (proc_of name ys) ≡ Some x → (proc_of name ys ≡ Some x → P x) → P x
    go true found later = let same : y ≡ x = cc found in rw (← same) all.0
    go false found later = later found

-- ---- one of them changes

-- what holds of each goes on to hold
pub all-at_proc : (P : ProcState → Type 0) (name : SiteName) (change : ProcState → ProcState) (sites : List ProcState) → ((x : ProcState) → proc_of name sites ≡ Some x → P x → P (change x)) → AllByRecursion P sites
    → AllByRecursion P (at_proc name change sites)
all-at_proc P name change [] keeps all = tt
all-at_proc P name change (x ∷ xs) keeps all = go (is_same_site x.me name) keeps (λ later. all-at_proc P name change xs later all.1)
  where
    go : (b : Bool) → ((y : ProcState) → cond b (Some x) (proc_of name xs) ≡ Some y → P y → P (change y))
        → (((y : ProcState) → proc_of name xs ≡ Some y → P y → P (change y)) → AllByRecursion P (at_proc name change xs))
        → AllByRecursion P (cond b (change x ∷ xs) (x ∷ at_proc name change xs))
    go true keeps later = (keeps x refl all.0, all.1)
    go false keeps later = (all.0, later keeps)

-- their names stay
pub names-at_proc : (name : SiteName) (change : ProcState → ProcState) (sites : List ProcState) → ((x : ProcState) → proc_of name sites ≡ Some x → (change x).me ≡ x.me) → proc_names (at_proc name change sites) ≡ proc_names sites
names-at_proc name change [] keeps = refl
names-at_proc name change (x ∷ xs) keeps = go (is_same_site x.me name) keeps (names-at_proc name change xs)
  where
    go : (b : Bool) → ((y : ProcState) → cond b (Some x) (proc_of name xs) ≡ Some y → (change y).me ≡ y.me)
        → (((y : ProcState) → proc_of name xs ≡ Some y → (change y).me ≡ y.me) → proc_names (at_proc name change xs) ≡ proc_names xs)
        → proc_names (cond b (change x ∷ xs) (x ∷ at_proc name change xs)) ≡ x.me ∷ proc_names xs
    go true keeps later = ap (λ (n : SiteName). n ∷ proc_names xs) (keeps x refl)
    go false keeps later = ap (λ (ns : List SiteName). x.me ∷ ns) (later keeps)

-- the one that is found afterwards is the one that changed
pub found-at_proc : (name : SiteName) (change : ProcState → ProcState) (sites : List ProcState) (y : ProcState) → ((x : ProcState) → proc_of name sites ≡ Some x → (change x).me ≡ x.me) → proc_of name (at_proc name change sites) ≡ Some y
    → (x : ProcState) × (proc_of name sites ≡ Some x) × (y ≡ change x)
found-at_proc name change [] y keeps found = absurd (cc found)
found-at_proc name change (x ∷ xs) y keeps found = go (is_same_site x.me name) refl keeps found (found-at_proc name change xs y)
  where
    go : (b : Bool) → is_same_site x.me name ≡ b → ((z : ProcState) → cond b (Some x) (proc_of name xs) ≡ Some z → (change z).me ≡ z.me)
        → proc_of name (cond b (change x ∷ xs) (x ∷ at_proc name change xs)) ≡ Some y
        → (((z : ProcState) → proc_of name xs ≡ Some z → (change z).me ≡ z.me) → proc_of name (at_proc name change xs) ≡ Some y → (z : ProcState) × (proc_of name xs ≡ Some z) × (y ≡ change z))
        → (z : ProcState) × (cond b (Some x) (proc_of name xs) ≡ Some z) × (y ≡ change z)
    go true is keeps found later =
        let named : is_same_site (change x).me name ≡ true = ap (λ (n : SiteName). is_same_site n name) (keeps x refl) ∙ is in
        let same : change x ≡ y = cc (rw named at found) in
        (x, refl, sym same)
    go false is keeps found later = later keeps (rw is at found)

-- ---- what grows

abbrev pub GrewTo : Option ProcState → Option ProcState → Type 0
GrewTo None None = Unit {0}
GrewTo None (Some y) = ⊥
GrewTo (Some x) None = ⊥
GrewTo (Some x) (Some y) = Grows x y

grew_same : (o : Option ProcState) → GrewTo o o
grew_same None = tt
grew_same (Some x) = grows_same x

-- each site that is there is there still, and has grown
abbrev pub AllGrow : List ProcState → List ProcState → Type 0
AllGrow old new = (name : SiteName) → GrewTo (proc_of name old) (proc_of name new)

-- where one of them grows, all have grown or are as before
pub grow-at_proc : (name : SiteName) (change : ProcState → ProcState) (sites : List ProcState) → ((x : ProcState) → proc_of name sites ≡ Some x → Grows x (change x)) → AllGrow sites (at_proc name change sites)
grow-at_proc name change [] keeps n = tt
grow-at_proc name change (x ∷ xs) keeps n = go (is_same_site x.me name) keeps (λ later. grow-at_proc name change xs later n)
  where
    by : (b c : Bool) (o o' : Option ProcState) (y : ProcState) → c ≡ b → Grows x y → GrewTo o o' → GrewTo (cond b (Some x) o) (cond c (Some y) o')
    by true true o o' y same grows rest = grows
    by true false o o' y same grows rest = absurd (cc same)
    by false true o o' y same grows rest = absurd (cc same)
    by false false o o' y same grows rest = rest

    go : (b : Bool) → ((y : ProcState) → cond b (Some x) (proc_of name xs) ≡ Some y → Grows y (change y)) → (((y : ProcState) → proc_of name xs ≡ Some y → Grows y (change y)) → GrewTo (proc_of n xs) (proc_of n (at_proc name change xs)))
        → GrewTo (cond (is_same_site x.me n) (Some x) (proc_of n xs)) (proc_of n (cond b (change x ∷ xs) (x ∷ at_proc name change xs)))
    go true keeps later =
        let grows = keeps x refl in
        by (is_same_site x.me n) (is_same_site (change x).me n) (proc_of n xs) (proc_of n xs) (change x) (ap (λ (me : SiteName). is_same_site me n) grows.me) grows (grew_same (proc_of n xs))
    go false keeps later = by (is_same_site x.me n) (is_same_site x.me n) (proc_of n xs) (proc_of n (at_proc name change xs)) x refl (grows_same x) (later keeps)

-- no low-water mark fell
pub low_grows : (old new : List ProcState) → AllGrow old new → (origin name : SiteName) → low_at origin (proc_of name old) ≤ low_at origin (proc_of name new)
low_grows old new grow origin name = go (proc_of name old) (proc_of name new) (grow name)
  where
    go : (o o' : Option ProcState) → GrewTo o o' → low_at origin o ≤ low_at origin o'
    go None None grew = omega arith
    go None (Some y) grew = absurd grew
    go (Some x) None grew = absurd grew
    go (Some x) (Some y) grew = grew.low origin

-- a packet is of the streams of sites that have grown
pub of_streams-grow : (old new : List ProcState) → AllGrow old new → (packet : Packet) → IsOfStreams old packet → IsOfStreams new packet
of_streams-grow old new grow (Carry from to number position dep past txn) is = go (proc_of from old) (proc_of from new) (grow from) is
  where
    go : (o o' : Option ProcState) → GrewTo o o' → calls_from to position o ≡ Some (Carry from to number position dep past txn) → calls_from to position o' ≡ Some (Carry from to number position dep past txn)
    go None o' grew is = absurd (cc is)
    go (Some x) None grew is = absurd grew
    go (Some x) (Some y) grew is = grew.packets to position (Carry from to number position dep past txn) is
of_streams-grow old new grow (Mark from to mark) is = omega (arith, is, low_grows old new grow to from)
