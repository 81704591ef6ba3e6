-- Once a push of calls is done nothing is ready at the receiver.
use Rattle.std.proofs.Common.{◌≡◌, inl, inr, ℕ, ◌≤◌, List, [], ◌∷◌, Bool, true, false, cond, not, Some, None, Ok, Err, refl, sym, ap, ◌∙◌, arith, subst}
use Rattle.std.specs.Prelude.{◌⊎◌, ◌||◌, nat_le, Option, Result}
use Rattle.std.proofs.lemmas.Bool.Decides.{nat_tests}
use Rattle.rep_values.specs.declared.name.SiteName.{SiteName}
use Rattle.rep_values.specs.declared.refusal.Refusal.{Refusal}
use Rattle.rep_values.specs.declared.refusal.Refusal.TheVariants as refusal
use Rattle.rep_values.specs.RefusalSteps.{refused, first_refusal}
use Rattle.rep_values.proofs.RefusalSteps.{or_then-None, refused_not-None}
use Rattle.rep_schema.specs.declared.schema.Schema.{Schema}
use Rattle.rep_schema.specs.Tables.{Rows}
use Rattle.txn_effects.specs.Transactions.{Failure}
use Rattle.rep_values.specs.SiteNames.{is_same_site}
use Rattle.deferred_queue.proofs.Sites.{is_same_site-true}
use Rattle.packet_code.specs.declared.packet.Packet.{Packet}
use Rattle.net_plan.specs.Directions.{is_up, on_way_between}
use Rattle.site_state.specs.declared.answers.Why.{Why}
use Rattle.site_state.specs.declared.arrival.Arrival.{Arrival}
use Rattle.site_state.specs.State.{SenderState, sender_of, arrived_at, arrivals}
use Rattle.rep_schema.specs.Sites.{is_among}
use Rattle.site_state.specs.Journal.{is_position, finished, low_water}
use Rattle.site_state.specs.Ready.{is_due, stale_of, is_ready}
use Rattle.site_state.proofs.LowWater.{low_water-below, low_water-greatest}
use Rattle.site_state.proofs.Waited.{due_dep, found_holds}
use Rattle.site_events.specs.Events.{without}
use Rattle.proc_state.specs.State.{ProcState, as_site, other_masters}
use Rattle.proc_state.specs.Packets.{proc_accept}
use Rattle.proc_state.specs.Passes.{txn_here, finished_by, applied_unless, proc_apply, apply_each, proc_pass}
use Rattle.proc_state.specs.Fits.{ArePassable, ProcFits}
use Rattle.proc_state.proofs.Passing.{passes_leave_nothing_ready}
use Rattle.proc_state.proofs.Ordering.{apply_senders}
use Rattle.proc_state.proofs.Fitting.{every_site_can_pass, ProcFits-proc_pass}
use Rattle.proc_state.proofs.Names.{accept_names, pass_names}
use Rattle.script_parse.specs.declared.command.Command.TheVariants as command
use Rattle.script_parse.specs.declared.proc_line.ProcLine.TheVariants as proc_line
use Rattle.world_state.specs.World.{WorldState}
use Rattle.world_state.specs.Phases.{behind_setup_step}
use Rattle.world_state.specs.Procs.{Procs, early_masters, proc_of, at_proc}
use Rattle.site_state.specs.Rounds.{sender_names}
use Rattle.world_state.specs.CallPushes.{calls_release, calls_taken_each, calls_send_mark, proc_passes, proc_until_quiet, calls_until_quiet, calls_return_mark, calls_pushed_in, calls_push}
use Rattle.world_state.specs.ProcRefusals.{is_other, are_two_masters, proc_steps}
use Rattle.world_state.specs.Steps.{step_by}
use Rattle.world_laws.specs.ProcedureWorlds.{NoCallsReady, PushesLeaveNoCallsReady}
use Rattle.world_laws.specs.Built.{AreMade, AreProcsBuilt}
use Rattle.world_laws.proofs.Sites.{name-proc_of, found-at_proc}
use Rattle.world_laws.proofs.Made.{site_is, site_fits, pushed_in_made}
use Rattle.world_laws.proofs.ProceduresStay.{is_behind}

-- ---- another sender's pass

-- what is finished of a sender is as it was, and so is what arrived
record Undisturbed (origin : SiteName) (x y : ProcState) : Type 0 where
  senders : y.senders ≡ x.senders
  finished : (q : ℕ) → finished origin y.journal q ≡ finished origin x.journal q

undisturbed_same : (origin : SiteName) (x : ProcState) → Undisturbed origin x x
undisturbed_same origin x = record { senders = refl; finished = λ q. refl }

undisturbed_then : (origin : SiteName) (x y z : ProcState) → Undisturbed origin x y → Undisturbed origin y z → Undisturbed origin x z
undisturbed_then origin x y z first second = record { senders = second.senders ∙ first.senders; finished = λ q. second.finished q ∙ first.finished q }

other_position : (origin o : SiteName) (p q : ℕ) → is_same_site o origin ≡ false → is_position origin q o p ≡ false
other_position origin o p q off = rw off refl

apply_undisturbed : (origin o : SiteName) (position : ℕ) (x : ProcState) → is_same_site o origin ≡ false → Undisturbed origin x (proc_apply o position x)
apply_undisturbed origin o position x off = record { senders = apply_senders o position x; finished = go (stale_of o position (as_site x)) (arrived_at o position x.senders) }
  where
    by : (a : Arrival) (r : Result (List Rows) Failure) (q : ℕ) → finished origin (finished_by o a r x).journal q ≡ finished origin x.journal q
    by a (Ok tables) q = rw (other_position origin o a.position q off) refl
    by a (Err failure) q = rw (other_position origin o a.position q off) refl

    go : (stale : Option Why) (found : Option Arrival) (q : ℕ) → finished origin (applied_unless stale o found x).journal q ≡ finished origin x.journal q
    go (Some reason) found q = refl
    go None None q = refl
    go None (Some a) q = by a (txn_here a.txn x) q

each_undisturbed : (origin o : SiteName) (arrived : List Arrival) (x : ProcState) → is_same_site o origin ≡ false → Undisturbed origin x (apply_each o arrived x)
each_undisturbed origin o [] x off = undisturbed_same origin x
each_undisturbed origin o (a ∷ arrived) x off = undisturbed_then origin x (proc_apply o a.position x) (apply_each o arrived (proc_apply o a.position x))
    (apply_undisturbed origin o a.position x off) (each_undisturbed origin o arrived (proc_apply o a.position x) off)

-- ---- what isn't ready isn't so afterwards

abbrev IsQuiet : SiteName → ProcState → Type 0
IsQuiet origin x = (position : ℕ) → is_ready origin position (as_site x) ≡ false

low_same : (origin : SiteName) (x y : ProcState) → Undisturbed origin x y → low_water origin y.journal ≤ low_water origin x.journal
low_same origin x y u = low_water-greatest origin x.journal (low_water origin y.journal) (λ p from_one up_to. sym (u.finished p) ∙ low_water-below origin y.journal p from_one up_to)

due_here : (origin : SiteName) (x : ProcState) (a : Arrival) → a.past ≡ [] → a.dep ≤ low_water origin x.journal → is_due origin (as_site x) a ≡ true
due_here origin x a none low =
    let within : nat_le a.dep (low_water origin x.journal) ≡ true = grind (arith, nat_tests, low) in
    rw (within, none) refl

ready_here : (origin : SiteName) (position : ℕ) (x : ProcState) (a : Arrival) → finished origin x.journal position ≡ false → arrived_at origin position x.senders ≡ Some a → is_due origin (as_site x) a ≡ true
    → is_ready origin position (as_site x) ≡ true
ready_here origin position x a unfinished at due = rw (unfinished, at, due) refl

stays_quiet : (origin : SiteName) (x y : ProcState) → ArePassable (arrivals origin (as_site x)) → Undisturbed origin x y → IsQuiet origin x → IsQuiet origin y
stays_quiet origin x y can u quiet position = go (finished origin y.journal position) refl (arrived_at origin position y.senders) refl
  where
    by : (a : Arrival) → finished origin y.journal position ≡ false → arrived_at origin position y.senders ≡ Some a → (due : Bool) → is_due origin (as_site y) a ≡ due → is_ready origin position (as_site y) ≡ false
    by a is at false due = rw (is, at, due) refl
    by a is at true due =
        let there : arrived_at origin position x.senders ≡ Some a = subst (λ (ss : List SenderState). arrived_at origin position ss ≡ Some a) u.senders at in
        let none : a.past ≡ [] = found_holds (λ (b : Arrival). b.past ≡ []) position (arrivals origin (as_site x)) a can.pasts there in
        let low : a.dep ≤ low_water origin x.journal = omega (arith, due_dep origin (as_site y) a due, low_same origin x y u) in
        let ready : is_ready origin position (as_site x) ≡ true = ready_here origin position x a (sym (u.finished position) ∙ is) there (due_here origin x a none low) in
        absurd (cc (ready, quiet position))

    go : (b : Bool) → finished origin y.journal position ≡ b → (o : Option Arrival) → arrived_at origin position y.senders ≡ o → is_ready origin position (as_site y) ≡ false
    go true is o at = rw is refl
    go false is None at = rw (is, at) refl
    go false is (Some a) at = by a is at (is_due origin (as_site y) a) refl

pass_quiet : (origin o : SiteName) (x : ProcState) → ProcFits x → IsQuiet origin x → IsQuiet origin (proc_pass o x)
pass_quiet origin o x fits quiet = go (is_same_site o origin) refl
  where
    go : (b : Bool) → is_same_site o origin ≡ b → IsQuiet origin (proc_pass o x)
    go true is =
        let own : IsQuiet o (proc_pass o x) = passes_leave_nothing_ready o x (every_site_can_pass x fits o) in
        subst (λ (n : SiteName). IsQuiet n (proc_pass o x)) (is_same_site-true o origin is) own
    go false is = stays_quiet origin x (proc_pass o x) (every_site_can_pass x fits origin) (each_undisturbed origin o (arrivals o (as_site x)) x is) quiet

-- ---- passes for several senders

passes_quiet : (origins : List SiteName) (x : ProcState) → ProcFits x → (origin : SiteName) → (is_among origins origin ≡ true) ⊎ IsQuiet origin x → IsQuiet origin (proc_passes origins x)
passes_quiet [] x fits origin (inl among) = absurd (cc among)
passes_quiet [] x fits origin (inr quiet) = quiet
passes_quiet (o ∷ os) x fits origin either = passes_quiet os (proc_pass o x) (ProcFits-proc_pass o x fits) origin (next either)
  where
    here : (b : Bool) → is_same_site o origin ≡ b → (b || is_among os origin) ≡ true → (is_among os origin ≡ true) ⊎ IsQuiet origin (proc_pass o x)
    here true is among = inr (subst (λ (n : SiteName). IsQuiet n (proc_pass o x)) (is_same_site-true o origin is) (passes_leave_nothing_ready o x (every_site_can_pass x fits o)))
    here false is among = inl among

    next : (is_among (o ∷ os) origin ≡ true) ⊎ IsQuiet origin x → (is_among os origin ≡ true) ⊎ IsQuiet origin (proc_pass o x)
    next (inl among) = here (is_same_site o origin) refl among
    next (inr quiet) = inr (pass_quiet origin o x fits quiet)

-- nothing arrives from a site that is no sender
no_sender : (ss : List SenderState) (origin : SiteName) → is_among (sender_names ss) origin ≡ false → sender_of origin ss ≡ None
no_sender [] origin none = refl
no_sender (s ∷ ss) origin none = go (is_same_site s.origin origin) none (no_sender ss origin)
  where
    go : (b : Bool) → (b || is_among (sender_names ss) origin) ≡ false → (is_among (sender_names ss) origin ≡ false → sender_of origin ss ≡ None) → cond b (Some s) (sender_of origin ss) ≡ None
    go true none later = absurd (cc none)
    go false none later = later none

quiet_stranger : (x : ProcState) (origin : SiteName) → sender_of origin x.senders ≡ None → IsQuiet origin x
quiet_stranger x origin none position = go (finished origin x.journal position) refl
  where
    absent : arrived_at origin position x.senders ≡ None
    absent = rw none refl

    go : (b : Bool) → finished origin x.journal position ≡ b → is_ready origin position (as_site x) ≡ false
    go true is = rw is refl
    go false is = rw (is, absent) refl

-- a site that applied what came has nothing ready
pub until_quiet_ends_quiet : (from : SiteName) (x : ProcState) → ProcFits x → NoCallsReady (proc_until_quiet from x)
until_quiet_ends_quiet from x fits origin = passes_quiet (from ∷ sender_names x.senders) x fits origin (known (is_same_site from origin) refl)
  where
    named : (b : Bool) → is_among (sender_names x.senders) origin ≡ b → is_same_site from origin ≡ false → (is_among (from ∷ sender_names x.senders) origin ≡ true) ⊎ IsQuiet origin x
    named true is off = inl (rw (off, is) refl)
    named false is off = inr (quiet_stranger x origin (no_sender x.senders origin is))

    known : (b : Bool) → is_same_site from origin ≡ b → (is_among (from ∷ sender_names x.senders) origin ≡ true) ⊎ IsQuiet origin x
    known true is = inl (rw is refl)
    known false is = named (is_among (sender_names x.senders) origin) refl is

-- ---- the push

-- another site is as it was
other-at_proc : (name other : SiteName) (change : ProcState → ProcState) (sites : List ProcState) → ((x : ProcState) → (change x).me ≡ x.me) → is_same_site name other ≡ false → proc_of other (at_proc name change sites) ≡ proc_of other sites
other-at_proc name other change [] keeps off = refl
other-at_proc name other change (x ∷ xs) keeps off = go (is_same_site x.me name) refl (other-at_proc name other change xs keeps off)
  where
    apart : is_same_site x.me name ≡ true → is_same_site x.me other ≡ false
    apart is = subst (λ (n : SiteName). is_same_site n other ≡ false) (sym (is_same_site-true x.me name is)) off

    go : (b : Bool) → is_same_site x.me name ≡ b → proc_of other (at_proc name change xs) ≡ proc_of other xs
        → proc_of other (cond b (change x ∷ xs) (x ∷ at_proc name change xs)) ≡ cond (is_same_site x.me other) (Some x) (proc_of other xs)
    go true is later = rw (keeps x, apart is) refl
    go false is later = ap (λ (o : Option ProcState). cond (is_same_site x.me other) (Some x) o) later

other-taken : (to other : SiteName) (packets : List Packet) (sites : List ProcState) → is_same_site to other ≡ false → proc_of other (calls_taken_each to packets sites) ≡ proc_of other sites
other-taken to other [] sites off = refl
other-taken to other (packet ∷ more) sites off =
    other-taken to other more (at_proc to (proc_accept packet) sites) off ∙ other-at_proc to other (proc_accept packet) sites (λ x. (accept_names packet x).me) off

answered_other : (up : Bool) (from to : SiteName) (p : Procs) → is_same_site to from ≡ false → proc_of from (calls_return_mark up from to p).sites ≡ proc_of from p.sites
answered_other true from to p off = other-taken to from (on_way_between from to (calls_send_mark from to (calls_release from to p)).net) p.sites off
answered_other false from to p off = refl

-- no site is among the others
without-own : (name : SiteName) (names : List SiteName) → is_among (without name names) name ≡ false
without-own name [] = refl
without-own name (n ∷ ns) = go (is_same_site n name) refl (without-own name ns)
  where
    go : (b : Bool) → is_same_site n name ≡ b → is_among (without name ns) name ≡ false → is_among (cond b (without name ns) (n ∷ without name ns)) name ≡ false
    go true is later = later
    go false is later = rw is later

-- two masters aren't the same
two_apart : (schema : Schema) (p : Procs) → AreMade schema p → (from to : SiteName) → are_two_masters from to p ≡ true → is_same_site from to ≡ false
two_apart schema p m from to are = go (proc_of from p.sites) refl are
  where
    by : (x : ProcState) → proc_of from p.sites ≡ Some x → is_among (other_masters x) to ≡ true → (b : Bool) → is_same_site from to ≡ b → b ≡ false
    by x found among false is = refl
    by x found among true is =
        let masters = (site_is schema p m from x found).masters_are in
        let own : is_among (without from (early_masters schema)) to ≡ true =
        subst (λ (n : SiteName). is_among (without n (early_masters schema)) to ≡ true) (name-proc_of from p.sites x found) (subst (λ (names : List SiteName). is_among names to ≡ true) masters among) in
        let none : is_among (without from (early_masters schema)) to ≡ false =
        subst (λ (n : SiteName). is_among (without from (early_masters schema)) n ≡ false) (is_same_site-true from to is) (without-own from (early_masters schema)) in
        absurd (cc (own, none))

    go : (o : Option ProcState) → proc_of from p.sites ≡ o → is_other to o ≡ true → is_same_site from to ≡ false
    go None found are = absurd (cc are)
    go (Some x) found are = by x found are (is_same_site from to) refl

-- a site keeps its name
passes_me : (origins : List SiteName) (x : ProcState) → (proc_passes origins x).me ≡ x.me
passes_me [] x = refl
passes_me (origin ∷ origins) x = passes_me origins (proc_pass origin x) ∙ (pass_names origin (arrivals origin (as_site x)) x).me

until_quiet_me : (from : SiteName) (x : ProcState) → (proc_until_quiet from x).me ≡ x.me
until_quiet_me from x = passes_me (from ∷ sender_names x.senders) x

pushed_quiet : (schema : Schema) (p : Procs) → AreMade schema p → (up : Bool) (from to : SiteName) (x : ProcState) → are_two_masters from to p ≡ true → proc_of to (calls_push up from to p).sites ≡ Some x → NoCallsReady x
pushed_quiet schema p m up from to x are found =
    let n = pushed_in_made schema from to p m in
    let off = two_apart schema p m from to are in
    let settled : proc_of to (calls_until_quiet from to (calls_pushed_in from to p)).sites ≡ Some x = sym (answered_other up to from (calls_until_quiet from to (calls_pushed_in from to p)) off) ∙ found in
    let before = found-at_proc to (proc_until_quiet from) (calls_pushed_in from to p).sites x (λ y there. until_quiet_me from y) settled in
    subst NoCallsReady (sym before.2) (until_quiet_ends_quiet from before.0 (site_fits schema (calls_pushed_in from to p) n to before.0 before.1))

-- once a push of calls is done no position of any sender is ready at the receiver
pub push_leaves_none_ready : (w : WorldState) → AreProcsBuilt w → PushesLeaveNoCallsReady w
push_leaves_none_ready w b number from to x passes found =
    let steps = or_then-None (behind_setup_step w) (first_refusal (proc_steps (proc_line.Push from to) w)) passes in
    let m = b.made (is_behind w steps.0) in
    let are = refused_not-None (are_two_masters from to w.procs) refusal.UnknownName (or_then-None (refused (not (are_two_masters from to w.procs)) refusal.UnknownName) _ steps.1).0 in
    let there : proc_of to (calls_push (is_up to from w.net) from to w.procs).sites ≡ Some x =
    subst (λ (r : Option Refusal). proc_of to (step_by r number (command.Procedures (proc_line.Push from to)) w).procs.sites ≡ Some x) passes found in
    pushed_quiet w.schema w.procs m (is_up to from w.net) from to x are there
