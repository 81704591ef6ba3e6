-- A master's history: all that its rows came of since the sites were as earlier, when all masters had the same rows. After every
-- event it is what the master has of what all masters queued since, and what was done while there was no other master.
use Rattle.std.proofs.Common.{◌≡◌, ◌≢◌, ℕ, ◌+◌, ◌-◌, ◌≤◌, ◌==◌, List, [], ◌∷◌, ◌++◌, map, Bool, true, false, cond, Some, None, Ok, refl, sym, ap, ◌∙◌, subst, inl, inr, arith}
use Rattle.std.specs.Prelude.{◌||◌, ◌&&◌, ◌⊎◌, not, nat_le, nat_lt}
use Rattle.std.specs.List.{AllByRecursion, list_any}
use mathlib.Core.Bool.{true≢false}
use Rattle.std.proofs.lemmas.Bool.Decides.{nat_tests}
use Rattle.rep_values.specs.declared.name.SiteName.{SiteName}
use Rattle.rep_schema.specs.declared.schema.Schema.{Schema}
use Rattle.rep_schema.specs.Sites.{senders_of, is_master_site, is_among}
use Rattle.rep_schema.specs.Tables.{Cells, Rows, columns_of, find_row}
use Rattle.rep_calls.specs.declared.call.Txn.{Txn}
use Rattle.conflict_detect.specs.ChangeCalls.{call_of}
use Rattle.txn_effects.specs.Calls.{Effect}
use Rattle.txn_effects.specs.Contents.{Content, IsContent, effect_on, content_after}
use Rattle.deferred_queue.specs.Streams.{at_position}
use Rattle.rep_values.specs.SiteNames.{is_same_site}
use Rattle.deferred_queue.proofs.Sites.{is_same_site-true, is_same_site-refl}
use Rattle.deferred_queue.proofs.Positions.{found_position}
use Rattle.packet_code.specs.declared.packet.Packet.{Packet}
use Rattle.txn_effects.specs.Convergent.{is_convergent}
use Rattle.txn_effects.specs.Locals.{BlockEffect}
use Rattle.rep_calls.specs.declared.statement.Statement.{Statement}
use Rattle.rep_laws.specs.GroupForms.{TxnKeepsForms}
use Rattle.rep_laws.specs.Commuting.{IsSound}
use Rattle.site_state.specs.declared.entry.Entry.{Entry}
use Rattle.site_state.specs.declared.entry.Entry.TheVariants.{Local, Done, Error, Executed, Dropped, Refreshed}
use Rattle.site_state.specs.State.{SiteState, arrived_at}
use Rattle.site_state.specs.Journal.{is_position, error_at}
use Rattle.site_state.specs.Contents.{content_with, tables_of, content_of, txn_of}
use Rattle.site_state.specs.Commits.{block_at}
use Rattle.site_state.specs.Fits.{EntryHas, EntryFits}
use Rattle.site_state.specs.Streams.{with_one, queue_of, count_of, queued_behind, stream_in, stream_to, went_onward}
use Rattle.site_state.specs.Packets.{count_opened}
use Rattle.site_state.specs.Steps.{is_empty, is_open, goes_onward, onward_number}
use Rattle.site_state.proofs.Growing.{length-queued_behind}
use Rattle.site_state.proofs.SchemaSites.{own_is_no_sender}
use Rattle.site_events.specs.Cluster.{site_of}
use Rattle.event_laws.proofs.Sites.{found_all, found_name}
use Rattle.event_laws.proofs.DeclaredSites.{IsSiteOf}
use Rattle.event_laws.proofs.Meeting.{SiteMeets, MeetsAt}
use Rattle.convergence_laws.specs.Joins.{parts_in, inserts_in}
use Rattle.convergence_laws.specs.Journals.{IsSoundTxn}
use Rattle.convergence_laws.specs.Collections.{IsReordered, Skip, Then}
use Rattle.convergence_laws.proofs.Moves.{DecisionLaws}
use Rattle.convergence_laws.proofs.RowsCome.{Came, came_on}
use Rattle.convergence_laws.proofs.CallsCome.{row_in, txn_comes}
use Rattle.convergence_laws.proofs.OnwardComes.{onward_comes}
use Rattle.convergence_laws.proofs.SameRows.{reordered_behind, reordered_middle, inserts_in-append, parts_in-append}
use Rattle.convergence_laws.specs.Pairs.{calls_in}
use Rattle.convergence_laws.proofs.Reordering.{reordered_as, chosen, chosen-same, chosen-more, above, above-more}
use Rattle.convergence_laws.proofs.Turns.{Turn, Same, Own, Did, Left, Renewed, Frame, Cause, Now, Late, IsLeft}
use Rattle.convergence_laws.proofs.SitesAt.{turn_frame}
use Rattle.event_laws.proofs.OpenMasters.{IsOpenTo, masters_open}
use Rattle.convergence_laws.proofs.Applied.{is_applied, IsShaped, FinishedWithoutError, error_finished, taken_not_applied}
use Rattle.convergence_laws.proofs.Told.{TxnIsTold, all_told_later, IsSentBy, cause_sent, queue-did, queue-left, Known, own_told, done_told, done_sound, QueuesTold, turn_queues, onward_told}
use Rattle.convergence_laws.proofs.Families.{masters_of, StandApart-masters, Among-masters, Are-masters, joined_same, joined_more, queue_in, count_for, count_in, has_number, piece_of, pieces_of, sent_number, finished_sent, arrived_among, open_any}
use Rattle.convergence_laws.proofs.Facts.{some_there, is_named, Facts, declared_master}
use Rattle.convergence_laws.proofs.Since.{IsSince}

-- ---- what a turn applies

-- a site applies nothing
applies_same : (x : SiteState) (e : Entry) → IsLeft e → (origin : SiteName) (p : ℕ) → is_applied origin (e ∷ x.journal) p ≡ is_applied origin x.journal p
applies_same x (Local number txn) left origin p = absurd left
applies_same x (Done o q onward txn) left origin p = absurd left
applies_same x (Error o q call error txn) left origin p = refl
applies_same x (Executed o q onward txn) left origin p = absurd left
applies_same x (Dropped o q) left origin p = refl
applies_same x (Refreshed moment) left origin p = absurd left

applies_did : (x : SiteState) (origin : SiteName) (position number : ℕ) (txn : Txn) (e : Entry) → Cause x origin position number txn e → (o : SiteName) (p : ℕ)
    → is_applied o (e ∷ x.journal) p ≡ (is_position o p origin position || is_applied o x.journal p)
applies_did x origin position number txn _ (Now is) o p = refl
applies_did x origin position number txn _ (Late e at is) o p = refl

-- what is done wasn't applied before, and wasn't finished by the site's own name
cause_unapplied : (x : SiteState) (origin : SiteName) (position number : ℕ) (txn : Txn) (e : Entry) → IsShaped x.journal → Cause x origin position number txn e → is_applied origin x.journal position ≡ false
cause_unapplied x origin position number txn _ shaped (Now is) = taken_not_applied x shaped origin origin position position is.unfinished (is_position-refl origin position)
  where
    is_position-refl : (origin : SiteName) (position : ℕ) → is_position origin position origin position ≡ true
    is_position-refl origin position = rw (is_same_site-refl origin) (grind (arith, nat_tests))
cause_unapplied x origin position number txn _ shaped (Late e at is) = shaped.open_not origin position (λ none. absurd (cc (none, at)))

-- what is done wasn't settled
cause_uncleared : (x : SiteState) (origin : SiteName) (position number : ℕ) (txn : Txn) (e : Entry) → Cause x origin position number txn e → FinishedWithoutError origin position x.journal → ⊥
cause_uncleared x origin position number txn _ (Now at) is = true≢false (sym is.done ∙ at.unfinished)
cause_uncleared x origin position number txn _ (Late e at same) is = some_there (error_at origin position x.journal) e at is.none

module _ (schema : Schema) (sound : IsSound schema) (decides : DecisionLaws) (first : ℕ → Rows) (earlier : List SiteState) where
  -- ---- histories

  pub record History (extra : List Txn) (sites : List SiteState) (x : SiteState) : Type 0 where
    pub history : List Txn
    pub came : (table group : ℕ) (key : Cells) (convergent : is_convergent schema table ≡ true) → Came schema sound decides table group convergent (find_row (columns_of schema table) key (first table))
        (row_in schema sound decides table group convergent (tables_of x) key) (inserts_in schema table key (calls_in history)) (parts_in table key group (calls_in history))
    pub same : IsReordered history (extra ++ pieces_of schema earlier x sites)
    pub told : AllByRecursion (TxnIsTold (is_named schema) schema sites) history

  abbrev least : SiteName → ℕ
  least n = count_in (site_of n earlier)

  abbrev piece : SiteState → List SiteState → SiteName → List Txn
  piece u sites n = piece_of (least n) u n (site_of n sites)

  module _ (sites others : List SiteState) (sent : List Packet) (facts : Facts schema sound decides sites sent) (since : IsSince schema earlier sites) (name : SiteName) (x y : SiteState) (known : Known (is_named schema) schema sound decides sites others name x y) (named : x.here.is_master ≡ true → is_named schema name ≡ true) (turn : Turn x y)
      (elsewhere : (n : SiteName) → is_same_site name n ≡ false → site_of n others ≡ site_of n sites) where
    abbrev IsMasterName : SiteName → Type 0
    IsMasterName n = is_master_site schema n ≡ true

    f : Frame x y
    f = turn_frame x y turn

    queued : x.here.is_master ≡ true → QueuesTold (is_named schema) schema sound decides others x y
    queued master = turn_queues (is_named schema) schema sound decides sites others name x y known (named master) facts.told turn

    own_name : x.here.site ≡ name
    own_name = found_name name sites x known.found

    differ_name : (n : SiteName) → is_same_site name n ≡ false → n ≢ name
    differ_name n other is = true≢false (sym (is_same_site-refl name) ∙ ap (is_same_site name) (sym is) ∙ other)

    -- ---- another master

    -- it has nothing yet of what this site queues now
    has_not_yet : (other : SiteName) (u : SiteState) → site_of other sites ≡ Some u → u.here.is_master ≡ true → x.here.is_master ≡ true → is_same_site name other ≡ false
        → has_number u.journal name (least name) (count_for u.here.site (Some x)) (count_of x + 1) ≡ false
    has_not_yet other u found master x_master differ =
        let own : u.here.site ≡ other = found_name other sites u found in
        let count : count_for u.here.site (Some x) ≡ open_to.0 = ap (λ (s : SiteName). count_for s (Some x)) own ∙ ap count_opened open_to.1 in
        let behind : nat_le (count_of x + 1) open_to.0 ≡ false = grind (arith, nat_tests, open_to.2) in
        rw (count, behind, beyond (is_applied name u.journal (count_of x + 1 - open_to.0)) refl) refl
      where
        open_to : IsOpenTo other x
        open_to = masters_open schema sound.shape sites sent facts.met other name u x found known.found master x_master (λ e. differ_name other differ (sym e))

        beyond : (b : Bool) → is_applied name u.journal (count_of x + 1 - open_to.0) ≡ b → b ≡ false
        beyond false is = refl
        beyond true is =
            let sent_it = finished_sent sites other name (count_of x + 1 - open_to.0) u.journal (facts.order other u found) ((facts.shaped other u found).finished_too name (count_of x + 1 - open_to.0) is) in
            let same : sent_it.1.sender ≡ x = some_same sent_it.1.sender x (sym sent_it.1.found ∙ known.found) in
            let at : at_position (count_of x + 1 - open_to.0) (queued_behind open_to.0 (queue_of x)) ≡ Some sent_it.0 =
            subst (λ o. at_position (count_of x + 1 - open_to.0) (stream_in o (queue_of x)) ≡ Some sent_it.0) open_to.1 (subst (λ (s : SiteState). at_position (count_of x + 1 - open_to.0) (stream_to other s) ≡ Some sent_it.0) same sent_it.1.at) in
            absurd (omega (arith, (found_position (count_of x + 1 - open_to.0) (queued_behind open_to.0 (queue_of x)) sent_it.0 at).1, length-queued_behind open_to.0 (queue_of x) open_to.2, open_to.2))
          where
            some_same : (a b : SiteState) → Some a ≡ Some b → a ≡ b
            some_same a b e = cc

    piece_other : (other : SiteName) (u : SiteState) → site_of other sites ≡ Some u → u.here.is_master ≡ true → is_same_site name other ≡ false → (n : SiteName) → IsMasterName n
        → piece u others n ≡ piece u sites n
    piece_other other u found master differ n named = go (is_same_site name n) refl
      where
        here : x.here.is_master ≡ true → piece_of (least name) u name (Some y) ≡ piece_of (least name) u name (Some x)
        here x_master =
            let off : is_same_site name u.here.site ≡ false = rw (found_name other sites u found) differ in
            rw (off, f.opened u.here.site, (queued x_master).queue) (by (queued x_master).queues)
          where
            by : (b : Bool) → chosen (has_number u.journal name (least name) (count_for u.here.site (Some x))) (with_one b (queued x_master).txn (queue_of x)) ≡ chosen (has_number u.journal name (least name) (count_for u.here.site (Some x))) (queue_of x)
            by false = refl
            by true = rw (has_not_yet other u found master x_master differ) refl

        go : (b : Bool) → is_same_site name n ≡ b → piece u others n ≡ piece u sites n
        go false off = ap (piece_of (least n) u n) (elsewhere n off)
        go true same =
            let is : name ≡ n = is_same_site-true name n same in
            let x_master : x.here.is_master ≡ true = declared_master schema sound decides sites sent facts name x known.found ∙ ap (is_master_site schema) is ∙ named in
            subst (λ (m : SiteName). piece u others m ≡ piece u sites m) is (rw (known.found, known.found_later) (here x_master))

    pub history_other : (extra : List Txn) (other : SiteName) (u : SiteState) → site_of other sites ≡ Some u → u.here.is_master ≡ true → is_same_site name other ≡ false → History extra sites u → History extra others u
    history_other extra other u found master differ h = record {
      history = h.history;
      came = h.came;
      same = subst (λ ps. IsReordered h.history (extra ++ ps))
          (sym (joined_same IsMasterName (piece u others) (piece u sites) (masters_of schema) (Are-masters schema) (piece_other other u found master differ))) h.same;
      told = all_told_later (is_named schema) schema sites others h.history known.later h.told;
    }

    -- ---- the site itself

    module _ (master : x.here.is_master ≡ true) where
      is_master_name : IsMasterName name
      is_master_name = sym (declared_master schema sound decides sites sent facts name x known.found) ∙ master

      own_later : y.here.site ≡ name
      own_later = ap (λ h. h.site) f.here ∙ own_name

      -- its own piece is what it queued since
      piece_own : piece y others name ≡ above (least name) (queue_of y)
      piece_own = rw (known.found_later, own_later, is_same_site-refl name) refl

      piece_own_before : piece x sites name ≡ above (least name) (queue_of x)
      piece_own_before = rw (known.found, own_name, is_same_site-refl name) refl

      not_own : (n : SiteName) → n ≢ name → is_same_site n name ≡ false
      not_own n differ = go (is_same_site n name) refl
        where
          go : (b : Bool) → is_same_site n name ≡ b → b ≡ false
          go false is = refl
          go true is = absurd (differ (is_same_site-true n name is))

      not_own_too : (n : SiteName) → n ≢ name → is_same_site name n ≡ false
      not_own_too n differ = go (is_same_site name n) refl
        where
          go : (b : Bool) → is_same_site name n ≡ b → b ≡ false
          go false is = refl
          go true is = absurd (differ (sym (is_same_site-true name n is)))

      -- another one's piece, as long as the site applies no more of it
      piece_apart : (n : SiteName) → n ≢ name → ((p : ℕ) → is_applied n y.journal p ≡ is_applied n x.journal p) → piece y others n ≡ piece x sites n
      piece_apart n differ same =
          rw (elsewhere n (not_own_too n differ), own_later, own_name, not_own n differ)
          (chosen-same (has_number y.journal n (least n) (count_for name (site_of n sites))) (has_number x.journal n (least n) (count_for name (site_of n sites))) (queue_in (site_of n sites))
          (λ m one le. ap (λ b. (nat_le m (count_for name (site_of n sites)) || b) && nat_lt (least n) m) (same (m - count_for name (site_of n sites)))))

      abbrev before : SiteName → List Txn
      before n = piece x sites n

      abbrev after : SiteName → List Txn
      after n = piece y others n

      abbrev AppliesSame : Type 0
      AppliesSame = (n : SiteName) → IsMasterName n → (p : ℕ) → is_applied n y.journal p ≡ is_applied n x.journal p

      pieces_kept : queue_of y ≡ queue_of x → AppliesSame → pieces_of schema earlier y others ≡ pieces_of schema earlier x sites
      pieces_kept queue same = joined_same IsMasterName after before (masters_of schema) (Are-masters schema) (λ n named. go n named (is_same_site n name) refl)
        where
          go : (n : SiteName) → IsMasterName n → (b : Bool) → is_same_site n name ≡ b → after n ≡ before n
          go n named true is = let own = is_same_site-true n name is in subst (λ (m : SiteName). after m ≡ before m) (sym own) (piece_own ∙ ap (above (least name)) queue ∙ sym piece_own_before)
          go n named false is = piece_apart n (λ e. true≢false (sym (is_same_site-refl name) ∙ ap (λ (m : SiteName). is_same_site m name) (sym e) ∙ is)) (same n named)

      pieces_queued : (t : Txn) → queue_of y ≡ t ∷ queue_of x → AppliesSame → IsReordered (t ∷ pieces_of schema earlier x sites) (pieces_of schema earlier y others)
      pieces_queued t queue same = joined_more IsMasterName before after name t (masters_of schema) (Among-masters schema name is_master_name) (StandApart-masters schema sound.shape) (Are-masters schema)
          (reordered_as (ap (λ ts. t ∷ ts) piece_own_before ∙ sym (above-more (least name) t (queue_of x) (since.queued name x known.found master)) ∙ ap (above (least name)) (sym queue) ∙ sym piece_own)) (λ n named differ. sym (piece_apart n differ (same n named)))

      -- it applies one more of another master
      module _ (origin : SiteName) (position number : ℕ) (txn : Txn) (e : Entry) (cause : Cause x origin position number txn e) (journal : y.journal ≡ e ∷ x.journal) where
        applied_now : (o : SiteName) (p : ℕ) → is_applied o y.journal p ≡ (is_position o p origin position || is_applied o x.journal p)
        applied_now o p = ap (λ j. is_applied o j p) journal ∙ applies_did x origin position number txn e cause o p

        not_position : (o : SiteName) (p : ℕ) → o ≢ origin → is_position o p origin position ≡ false
        not_position o p differ = go (is_same_site origin o) refl
          where
            go : (b : Bool) → is_same_site origin o ≡ b → (b && (position == p)) ≡ false
            go false is = refl
            go true is = absurd (differ (sym (is_same_site-true origin o is)))

        applied_elsewhere : (o : SiteName) → o ≢ origin → (p : ℕ) → is_applied o y.journal p ≡ is_applied o x.journal p
        applied_elsewhere o differ p = applied_now o p ∙ (rw (not_position o p differ) refl)

        sent_it : IsSentBy sites name origin position txn
        sent_it = cause_sent sites name origin position number txn x e known.holds known.order cause

        -- what a site does came from another one
        from_another : origin ≢ name
        from_another same =
            let meets : SiteMeets sites name x = subst (MeetsAt sites name) known.found (facts.met.meets.each name) in
            let among = arrived_among origin position x.senders (come cause meets) in
            let declared = (found_all (IsSiteOf schema) name sites x facts.met.sites_of known.found).declared in
            let own : is_among (senders_of schema name) name ≡ true = subst (λ (o : SiteName). is_among (senders_of schema name) o ≡ true) same (rw (declared.senders, own_name) at among) in
            true≢false (sym own ∙ own_is_no_sender schema sound.shape name)
          where
            come : {e : Entry} → Cause x origin position number txn e → SiteMeets sites name x → arrived_at origin position x.senders ≢ None
            come (Now is) meets = some_there (arrived_at origin position x.senders) is.arrival is.there
            come (Late er at is) meets = meets.arrived origin position (error_finished origin position x.journal (some_there (error_at origin position x.journal) er at))

        pieces_applied : IsMasterName origin → queue_of y ≡ queue_of x → IsReordered (txn ∷ pieces_of schema earlier x sites) (pieces_of schema earlier y others)
        pieces_applied named queue = joined_more IsMasterName before after origin txn (masters_of schema) (Among-masters schema origin named) (StandApart-masters schema sound.shape) (Are-masters schema) more
            (λ n master_name differ. go n differ (is_same_site n name) refl)
          where
            go : (n : SiteName) → n ≢ origin → (b : Bool) → is_same_site n name ≡ b → before n ≡ after n
            go n differ true is = let own = is_same_site-true n name is in subst (λ (m : SiteName). before m ≡ after m) (sym own) (piece_own_before ∙ ap (above (least name)) (sym queue) ∙ sym piece_own)
            go n differ false is = sym (piece_apart n (λ e. true≢false (sym (is_same_site-refl name) ∙ ap (λ (m : SiteName). is_same_site m name) (sym e) ∙ is)) (applied_elsewhere n differ))

            o : SiteState
            o = sent_it.sender

            count : ℕ
            count = count_for name (Some o)

            at_number : at_position (count + position) (queue_of o) ≡ Some txn
            at_number = sent_number sites name origin position txn sent_it

            from_one : 1 ≤ position
            from_one = (found_position position (stream_to name o) txn sent_it.at).0

            behind : nat_le (count + position) count ≡ false
            behind = grind (arith, nat_tests, from_one)

            back : count + position - count ≡ position
            back = omega arith

            -- what was queued earlier is settled
            since_then : nat_lt (least origin) (count + position) ≡ true
            since_then = go (nat_lt (least origin) (count + position)) refl
              where
                go : (b : Bool) → nat_lt (least origin) (count + position) ≡ b → b ≡ true
                go true is = refl
                go false is =
                    let le : count + position ≤ least origin = grind (arith, nat_tests) in
                    absurd (cause_uncleared x origin position number txn e cause
                    (since.settled name origin x o position (record { found = known.found; master = master; there = sent_it.found; named = named; differ = from_another }) from_one le))

            off : has_number x.journal origin (least origin) count (count + position) ≡ false
            off = let none = cause_unapplied x origin position number txn e (facts.shaped name x known.found) cause in rw (behind, back, none) refl

            on : has_number y.journal origin (least origin) count (count + position) ≡ true
            on =
                let self : is_position origin position origin position ≡ true = rw (is_same_site-refl origin) (grind (arith, nat_tests)) in
                let now : is_applied origin y.journal position ≡ true = applied_now origin position ∙ (rw self refl) in
                rw (behind, back, now, since_then) refl

            rest : (m : ℕ) → m ≢ count + position → has_number x.journal origin (least origin) count m ≡ has_number y.journal origin (least origin) count m
            rest m differ = ap (λ c. c && nat_lt (least origin) m) (at (nat_le m count) refl)
              where
                at : (b : Bool) → nat_le m count ≡ b → (b || is_applied origin x.journal (m - count)) ≡ (b || is_applied origin y.journal (m - count))
                at true is = refl
                at false is =
                    let apart : (position == m - count) ≡ false = grind (arith, nat_tests, differ) in
                    let other : is_position origin (m - count) origin position ≡ false = rw (is_same_site-refl origin) apart in
                    sym (applied_now origin (m - count) ∙ (rw other refl))

            more : IsReordered (txn ∷ before origin) (after origin)
            more = rw (elsewhere origin (not_own_too origin from_another), own_later, own_name, not_own origin from_another, sent_it.found)
                (chosen-more (has_number x.journal origin (least origin) count) (has_number y.journal origin (least origin) count) (queue_of o) (count + position) txn at_number off on rest)

      -- ---- its history

      -- the rows of what the site becomes
      abbrev IsCome : Txn → Type 0
      IsCome t = (table group : ℕ) (key : Cells) (convergent : is_convergent schema table ≡ true) → Came schema sound decides table group convergent (row_in schema sound decides table group convergent (tables_of x) key)
          (row_in schema sound decides table group convergent (tables_of y) key) (inserts_in schema table key t.calls) (parts_in table key group t.calls)

      -- what a turn adds to the history of the master, and to what no other one has
      pub record Later (extra : List Txn) : Type 0 where
        pub more : List Txn
        pub alone : (more ≡ []) ⊎ ((other : SiteName) (u : SiteState) → site_of other sites ≡ Some u → u.here.is_master ≡ true → is_same_site name other ≡ false → ⊥)
        pub history : History (more ++ extra) others y

      no_more : (extra : List Txn) → History extra sites x → tables_of y ≡ tables_of x → pieces_of schema earlier y others ≡ pieces_of schema earlier x sites → Later extra
      no_more extra h tables pieces = record {
        more = [];
        alone = inl refl;
        history = record {
          history = h.history;
          came = λ table group key convergent. subst (λ (ts : List Rows). Came schema sound decides table group convergent (find_row (columns_of schema table) key (first table))
              (row_in schema sound decides table group convergent ts key) (inserts_in schema table key (calls_in h.history)) (parts_in table key group (calls_in h.history))) (sym tables) (h.came table group key convergent);
          same = subst (λ ps. IsReordered h.history (extra ++ ps)) (sym pieces) h.same;
          told = all_told_later (is_named schema) schema sites others h.history known.later h.told;
        };
      }

      with_one_more : (extra more : List Txn) → History extra sites x → (t : Txn) → IsCome t → TxnIsTold (is_named schema) schema others t → IsReordered (t ∷ (extra ++ pieces_of schema earlier x sites)) ((more ++ extra) ++ pieces_of schema earlier y others)
          → History (more ++ extra) others y
      with_one_more extra more h t come told same = record {
        history = t ∷ h.history;
        came = λ table group key convergent.
            rw (inserts_in-append schema table key (calls_in h.history) t.calls, parts_in-append table key group (calls_in h.history) t.calls)
            (came_on schema sound decides table group convergent (find_row (columns_of schema table) key (first table)) (row_in schema sound decides table group convergent (tables_of x) key)
            (row_in schema sound decides table group convergent (tables_of y) key) (inserts_in schema table key (calls_in h.history)) (inserts_in schema table key t.calls) (parts_in table key group (calls_in h.history))
            (parts_in table key group t.calls) (h.came table group key convergent) (come table group key convergent));
        same = Then (Skip t h.same) same;
        told = (told, all_told_later (is_named schema) schema sites others h.history known.later h.told);
      }

      -- one more among the pieces
      one_piece : (extra : List Txn) → History extra sites x → (t : Txn) → IsCome t → TxnIsTold (is_named schema) schema others t → IsReordered (t ∷ pieces_of schema earlier x sites) (pieces_of schema earlier y others) → Later extra
      one_piece extra h t come told more = record {
        more = [];
        alone = inl refl;
        history = with_one_more extra [] h t come told (Then (reordered_middle extra t (pieces_of schema earlier x sites)) (reordered_behind extra more));
      }

      -- ---- each turn

      content_of_own : (number : ℕ) (txn : Txn) → y.base ≡ x.base → y.journal ≡ Local number txn ∷ x.journal → content_of y ≡ content_after schema name txn (content_of x)
      content_of_own number txn base journal = (rw (f.schema, f.here, base, journal) refl) ∙ ap (λ (s : Schema). content_after s x.here.site txn (content_of x)) known.of_schema ∙ ap (λ (o : SiteName). content_after schema o txn (content_of x)) own_name

      content_did : (origin : SiteName) (position number : ℕ) (txn : Txn) (e : Entry) → Cause x origin position number txn e → y.base ≡ x.base → y.journal ≡ e ∷ x.journal → content_of y ≡ content_after schema origin txn (content_of x)
      content_did origin position number txn e cause base journal = (rw (f.schema, f.here, base, journal) refl) ∙ by cause ∙ ap (λ (s : Schema). content_after s origin txn (content_of x)) known.of_schema
        where
          by : {e : Entry} → Cause x origin position number txn e → content_with x.schema x.here.site x.base e (content_of x) ≡ content_after x.schema origin txn (content_of x)
          by (Now is) = refl
          by (Late er at is) = refl

      content_left : (e : Entry) → IsLeft e → content_with x.schema x.here.site x.base e (content_of x) ≡ content_of x
      content_left (Local number txn) left = absurd left
      content_left (Done origin position onward txn) left = absurd left
      content_left (Error origin position call error txn) left = refl
      content_left (Executed origin position onward txn) left = absurd left
      content_left (Dropped origin position) left = refl
      content_left (Refreshed moment) left = absurd left

      is_content : IsContent schema (content_of x)
      is_content = subst (λ (s : Schema). IsContent s (content_of x)) known.of_schema known.fits.content

      -- rows come of a transaction that succeeds
      comes : (origin : SiteName) (txn : Txn) (effect : Effect) → IsSoundTxn schema txn → effect_on schema origin txn (content_of x) ≡ Ok effect → content_of y ≡ content_after schema origin txn (content_of x) → IsCome txn
      comes origin txn effect txn_sound gives content table group key convergent =
          subst (λ (c : Content). Came schema sound decides table group convergent (row_in schema sound decides table group convergent (tables_of x) key) (row_in schema sound decides table group convergent c.tables key)
          (inserts_in schema table key txn.calls) (parts_in table key group txn.calls)) (sym content)
          (txn_comes schema sound decides table group convergent key txn (content_of x) origin effect is_content txn_sound.fits txn_sound.keeps gives)

      -- and of its row changes
      comes_onward : (origin : SiteName) (txn : Txn) (effect : Effect) → IsSoundTxn schema txn → effect_on schema origin txn (content_of x) ≡ Ok effect → content_of y ≡ content_after schema origin txn (content_of x) → IsCome (txn_of schema effect.changes)
      comes_onward origin txn effect txn_sound gives content table group key convergent =
          subst (λ (c : Content). Came schema sound decides table group convergent (row_in schema sound decides table group convergent (tables_of x) key) (row_in schema sound decides table group convergent c.tables key)
          (inserts_in schema table key (map (call_of schema) effect.changes)) (parts_in table key group (map (call_of schema) effect.changes))) (sym content)
          (onward_comes schema sound decides table group convergent key txn (content_of x) origin effect is_content txn_sound gives)

      no_change : (origin : SiteName) (txn : Txn) (effect : Effect) → effect_on schema origin txn (content_of x) ≡ Ok effect → effect.changes ≡ [] → content_of y ≡ content_after schema origin txn (content_of x) → tables_of y ≡ tables_of x
      no_change origin txn effect gives none content = ap (λ (c : Content). c.tables) content ∙ (rw (gives, none) refl)

      module _ (extra : List Txn) (h : History extra sites x) where
        own_later_history : (number : ℕ) (statements : List Statement) (block : BlockEffect) → y.base ≡ x.base → block_at statements x ≡ Ok block → y.journal ≡ Local number (txn_of x.schema block.changes) ∷ x.journal → Later extra
        own_later_history number statements block base is journal =
            let txn : Txn = txn_of x.schema block.changes in
            let fits : AllByRecursion (EntryFits schema) (Local number txn ∷ x.journal) = subst (λ (s : Schema). AllByRecursion (EntryFits s) (Local number txn ∷ x.journal)) (f.schema ∙ known.of_schema) (rw journal at known.fits_later.journal) in
            let keeps : AllByRecursion (EntryHas (TxnKeepsForms schema)) (Local number txn ∷ x.journal) = subst (λ (s : Schema). AllByRecursion (EntryHas (TxnKeepsForms s)) (Local number txn ∷ x.journal)) (f.schema ∙ known.of_schema) (rw journal at known.keeps_later.keeps.journal) in
            let effect : Effect = record { changes = block.changes; numbers = (content_of x).numbers } in
            let gives : effect_on schema name txn (content_of x) ≡ Ok effect =
            subst (λ (s : Schema). effect_on s name txn (content_of x) ≡ Ok effect) known.of_schema (subst (λ (o : SiteName). effect_on x.schema o txn (content_of x) ≡ Ok effect) own_name (known.fits.blocks statements block is)) in
            let told : TxnIsTold (is_named schema) schema others txn = own_told (is_named schema) schema sound decides sites others name x y known (named master) number txn f.here journal in
            one_piece extra h txn (comes name txn effect (record { fits = fits.0; keeps = keeps.0 }) gives (content_of_own number txn base journal)) told
            (pieces_queued txn (rw (f.schema, f.here, base, journal) refl) (λ n named p. rw journal refl))

        did_later_history : (e : Entry) (origin : SiteName) (position : ℕ) (txn : Txn) (effect : Effect) → y.base ≡ x.base → Cause x origin position (onward_number origin effect.changes x) txn e
            → effect_on x.schema origin txn (content_of x) ≡ Ok effect → y.journal ≡ e ∷ x.journal → Later extra
        did_later_history e origin position txn effect base cause gives_here journal = go (is_master_site schema origin) refl
          where
            gives : effect_on schema origin txn (content_of x) ≡ Ok effect
            gives = subst (λ (s : Schema). effect_on s origin txn (content_of x) ≡ Ok effect) known.of_schema gives_here

            txn_sound : IsSoundTxn schema txn
            txn_sound = done_sound (is_named schema) schema sound decides sites others name x y known e origin position (onward_number origin effect.changes x) txn cause journal f.schema

            content : content_of y ≡ content_after schema origin txn (content_of x)
            content = content_did origin position (onward_number origin effect.changes x) txn e cause base journal

            told : TxnIsTold (is_named schema) schema others txn
            told = done_told (is_named schema) schema sound decides sites others name x y known facts.told e origin position (onward_number origin effect.changes x) txn cause

            onward : Txn
            onward = txn_of schema effect.changes

            told_onward : TxnIsTold (is_named schema) schema others onward
            told_onward = onward_told (is_named schema) schema sound decides others origin txn (content_of x) effect is_content txn_sound gives told

            queue_is : queue_of y ≡ with_one (went_onward x.here (onward_number origin effect.changes x)) onward (queue_of x)
            queue_is = (rw (f.schema, f.here, base, journal) refl) ∙ queue-did (is_named schema) schema sound decides x origin position (onward_number origin effect.changes x) txn e cause
                ∙ ap (λ (t : Txn). with_one (went_onward x.here (onward_number origin effect.changes x)) t (queue_of x)) (rw (gives_here, known.of_schema) refl)

            number_by : (b : Bool) → goes_onward origin effect.changes x ≡ b → onward_number origin effect.changes x ≡ cond b (count_of x + 1) 0
            number_by b is = ap (λ c. cond c (count_of x + 1) 0) is

            numbered : (m : Bool) (n : ℕ) → m ≡ true → (m && not (n + 1 == 0)) ≡ true
            numbered true n is = let off : (n + 1 == 0) ≡ false = grind (arith, nat_tests) in rw off refl
            numbered false n is = cc

            unnumbered : (m : Bool) → (m && not (0 == 0)) ≡ false
            unnumbered true = refl
            unnumbered false = refl

            went : (b : Bool) → goes_onward origin effect.changes x ≡ b → went_onward x.here (onward_number origin effect.changes x) ≡ b
            went true is = ap (went_onward x.here) (number_by true is) ∙ numbered x.here.is_master (count_of x) master
            went false is = ap (went_onward x.here) (number_by false is) ∙ unnumbered x.here.is_master

            of_schema : is_master_site x.schema origin ≡ is_master_site schema origin
            of_schema = ap (λ (s : Schema). is_master_site s origin) known.of_schema

            four : (m s e a n t u b : Bool) → m ≡ n → s ≡ t → e ≡ u → a ≡ b → (m && not s && not e && a) ≡ (n && not t && not u && b)
            four m s e a n t u b p q r v = rw (p, q, r, v) refl

            goes : (s e a : Bool) → is_master_site schema origin ≡ s → is_empty effect.changes ≡ e → list_any is_open x.destinations ≡ a → goes_onward origin effect.changes x ≡ (true && not s && not e && a)
            goes s e a p q r = four x.here.is_master (is_master_site x.schema origin) (is_empty effect.changes) (list_any is_open x.destinations) true s e a master (of_schema ∙ p) q r

            queue_by : (b : Bool) → goes_onward origin effect.changes x ≡ b → queue_of y ≡ with_one b onward (queue_of x)
            queue_by b is = queue_is ∙ ap (λ c. with_one c onward (queue_of x)) (went b is)

            plain : is_master_site schema origin ≡ false → AppliesSame
            plain off n named p = applied_elsewhere origin position (onward_number origin effect.changes x) txn e cause journal n
                (λ same. true≢false (sym named ∙ ap (is_master_site schema) same ∙ off)) p

            no_changes : is_empty effect.changes ≡ true → effect.changes ≡ []
            no_changes e = nothing effect.changes e
              where
                nothing : {X : Type 0} (xs : List X) → is_empty xs ≡ true → xs ≡ []
                nothing [] e = refl
                nothing (z ∷ zs) e = cc

            from_snapshot : is_master_site schema origin ≡ false → (empty some : Bool) → is_empty effect.changes ≡ empty → list_any is_open x.destinations ≡ some → Later extra
            from_snapshot off true some is opened =
                no_more extra h (no_change origin txn effect gives (no_changes is) content) (pieces_kept (queue_by false (goes false true (list_any is_open x.destinations) off is refl)) (plain off))
            from_snapshot off false true is opened =
                one_piece extra h onward (comes_onward origin txn effect txn_sound gives content) told_onward (pieces_queued onward (queue_by true (goes false false true off is opened)) (plain off))
            from_snapshot off false false is opened = record {
              more = onward ∷ [];
              alone = inr (λ other u found u_master differ.
                  let open_to = masters_open schema sound.shape sites sent facts.met other name u x found known.found u_master master (λ same. differ_name other differ (sym same)) in
                  true≢false (sym (open_any other open_to.0 x.destinations open_to.1) ∙ opened));
              history = with_one_more extra (onward ∷ []) h onward (comes_onward origin txn effect txn_sound gives content) told_onward
                  (Skip onward (reordered_as (ap (λ ps. extra ++ ps) (sym (pieces_kept (queue_by false (goes false false false off is opened)) (plain off))))));
            }

            go : (b : Bool) → is_master_site schema origin ≡ b → Later extra
            go true on = one_piece extra h txn (comes origin txn effect txn_sound gives content) told
                (pieces_applied origin position (onward_number origin effect.changes x) txn e cause journal on (queue_by false (goes true (is_empty effect.changes) (list_any is_open x.destinations) on refl refl)))
            go false off = from_snapshot off (is_empty effect.changes) (list_any is_open x.destinations) refl refl

        pub later_history : (t : Turn x y) → Later extra
        later_history (Same g base journal last) =
            no_more extra h (rw (f.schema, f.here, base, journal) refl) (pieces_kept (rw (f.schema, f.here, base, journal) refl) (λ n named p. rw journal refl))
        later_history (Own g base number statements block is journal last) = own_later_history number statements block base is journal
        later_history (Did g base e origin position txn effect cause gives journal last) = did_later_history e origin position txn effect base cause gives journal
        later_history (Left g base e left follows journal last) =
            let entered : content_of y ≡ content_with x.schema x.here.site x.base e (content_of x) = rw (f.schema, f.here, base, journal) refl in
            no_more extra h (ap (λ (c : Content). c.tables) (entered ∙ content_left e left))
            (pieces_kept ((rw (f.schema, f.here, base, journal) refl) ∙ queue-left (is_named schema) schema sound decides x e left) (λ n named p. ap (λ j. is_applied n j p) journal ∙ applies_same x e left n p))
        later_history (Renewed g off moment journal last) = absurd (true≢false (sym master ∙ off))
