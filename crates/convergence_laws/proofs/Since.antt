-- What the sites have more than they had earlier, and what the masters have settled of it.
use Rattle.std.proofs.Common.{◌≡◌, ◌≢◌, ℕ, ◌+◌, ◌<◌, ◌≤◌, List, [], ◌∷◌, ◌++◌, length, Bool, true, false, Some, None, refl, sym, ap, ◌∙◌, subst, inl, inr, arith}
use Rattle.std.specs.Prelude.{◌||◌}
use Rattle.std.specs.List.{list_any}
use mathlib.Core.Bool.{true≢false}
use Rattle.rep_values.specs.declared.name.SiteName.{SiteName}
use Rattle.rep_schema.specs.declared.schema.Schema.{Schema}
use Rattle.rep_calls.specs.declared.call.Txn.{Txn}
use Rattle.rep_laws.specs.Commuting.{IsSound}
use Rattle.rep_values.specs.SiteNames.{is_same_site}
use Rattle.deferred_queue.proofs.Sites.{is_same_site-true}
use Rattle.deferred_queue.proofs.Positions.{found_position}
use Rattle.packet_code.specs.declared.packet.Packet.{Packet}
use Rattle.site_state.specs.declared.entry.Entry.{Entry}
use Rattle.site_state.specs.State.{SiteState, opened_of}
use Rattle.rep_schema.specs.Sites.{is_master_site, is_late_master}
use Rattle.site_state.specs.Journal.{finished}
use Rattle.site_state.specs.Contents.{txn_of}
use Rattle.site_state.specs.Streams.{onward_txn, went_onward, with_one, queue_of, count_of}
use Rattle.site_state.specs.Steps.{onward_number}
use Rattle.site_state.specs.Joining.{site_open}
use Rattle.site_state.specs.Packets.{count_opened}
use Rattle.site_state.proofs.Destinations.{opened_in-other, opened_in-opened}
use Rattle.site_events.specs.Cluster.{site_of, at_site}
use Rattle.site_events.specs.Joins.{copied, with_joined, may_join}
use Rattle.event_laws.specs.Marks.{journal_in}
use Rattle.event_laws.proofs.NewSites.{copied_is_new, copied_here}
use Rattle.event_laws.proofs.DeclaredSites.{joins_late}
use Rattle.event_laws.proofs.Waiting.{AreMet}
use Rattle.convergence_laws.proofs.Moves.{DecisionLaws}
use Rattle.convergence_laws.specs.QuietAgreement.{drops_of_master, NothingWasDroppedSince}
use Rattle.convergence_laws.proofs.Turns.{Turn, Same, Own, Did, Left, Renewed, Becomes, Stays, Turns, Joins}
use Rattle.convergence_laws.proofs.SitesAt.{IsThere, is_there, WasThere, was_there, turn_frame, Entered, Nothing, One, turn_enters, WasJoined, Old, New, was_joined}
use Rattle.event_laws.proofs.JoinedSites.{found_opened, found_joined}
use Rattle.convergence_laws.proofs.Growing.{HaveAll, becomes_all, now_all}
use Rattle.convergence_laws.proofs.Applied.{is_applied, FinishedWithoutError, without_error_more, applied_more}
use Rattle.convergence_laws.proofs.Told.{queue-did, queue-left}
use Rattle.event_laws.proofs.OpenMasters.{masters_open}
use Rattle.convergence_laws.proofs.Families.{count_for, count_in, finished_sent, sent_number}
use Rattle.convergence_laws.proofs.Facts.{Facts, declared_master}

-- ---- queues grow

-- a turn of a master takes nothing from its queue
turn_grows : (schema : Schema) (sound : IsSound schema) (decides : DecisionLaws) (x y : SiteState) → x.here.is_master ≡ true → Turn x y → count_of x ≤ count_of y
turn_grows schema sound decides x y master turn = go turn
  where
    same : (queue : List Txn) → queue ≡ queue_of x → count_of x ≤ length queue
    same queue is = rw is (omega arith)

    one : (b : Bool) (txn : Txn) (queue : List Txn) → queue ≡ with_one b txn (queue_of x) → count_of x ≤ length queue
    one true txn queue is = rw is (omega arith)
    one false txn queue is = rw is (omega arith)

    go : Turn x y → count_of x ≤ count_of y
    go (Same f base journal last) = same (queue_of y) (rw (f.schema, f.here, base, journal) refl)
    go (Own f base number statements block is journal last) = one true (txn_of x.schema block.changes) (queue_of y) (rw (f.schema, f.here, base, journal) refl)
    go (Did f base e origin position txn effect cause gives journal last) = one (went_onward x.here (onward_number origin effect.changes x)) (onward_txn x.schema x.here x.base x.journal origin txn) (queue_of y) ((rw (f.schema, f.here, base, journal) refl) ∙ queue-did (λ n. true) schema sound decides x origin position _ txn e cause)
    go (Left f base e left follows journal last) = same (queue_of y) ((rw (f.schema, f.here, base, journal) refl) ∙ queue-left (λ n. true) schema sound decides x e left)
    go (Renewed f plain moment journal last) = absurd (true≢false (sym master ∙ plain))

module _ (schema : Schema) where
  -- ---- since the sites were as earlier

  -- a master, and another one that sends to it
  pub record AreTwo (sites : List SiteState) (name origin : SiteName) (x o : SiteState) : Type 0 where
    pub found : site_of name sites ≡ Some x
    pub master : x.here.is_master ≡ true
    pub there : site_of origin sites ≡ Some o
    pub named : is_master_site schema origin ≡ true
    pub differ : origin ≢ name

  -- the sites have all that they had; of what masters had queued by then each other master has settled all, and of what they
  -- queued since it has applied what it has settled
  pub record IsSince (earlier sites : List SiteState) : Type 0 where
    pub have : HaveAll earlier sites
    pub queued : (name : SiteName) (x : SiteState) → site_of name sites ≡ Some x → x.here.is_master ≡ true → count_in (site_of name earlier) ≤ count_of x
    pub settled : (name origin : SiteName) (x o : SiteState) (position : ℕ) → AreTwo sites name origin x o → 1 ≤ position → count_for name (Some o) + position ≤ count_in (site_of origin earlier)
        → FinishedWithoutError origin position x.journal
    pub applied : (name origin : SiteName) (x o : SiteState) (position : ℕ) → AreTwo sites name origin x o → count_in (site_of origin earlier) < count_for name (Some o) + position
        → FinishedWithoutError origin position x.journal → is_applied origin x.journal position ≡ true

  some_none : {X : Type 0} (x : X) → Some x ≡ None → ⊥
  some_none x e = cc

  some_same : {X : Type 0} (x y : X) → Some x ≡ Some y → x ≡ y
  some_same x y e = cc

  -- ---- what was dropped

  one_kept : (e : Entry) (newer : List Entry) → (drops_of_master schema e || list_any (drops_of_master schema) newer) ≡ false → (drops_of_master schema e ≡ false) × (list_any (drops_of_master schema) newer ≡ false)
  one_kept e newer kept = go (drops_of_master schema e) kept
    where
      go : (b : Bool) → (b || list_any (drops_of_master schema) newer) ≡ false → (b ≡ false) × (list_any (drops_of_master schema) newer ≡ false)
      go true e = cc
      go false e = (refl, e)

  -- a drop isn't taken back
  pub becomes_kept : (earlier sites others : List SiteState) → Becomes sites others → NothingWasDroppedSince schema earlier others → NothingWasDroppedSince schema earlier sites
  becomes_kept earlier sites _ Stays kept = kept
  becomes_kept earlier sites _ (Turns at change turns) kept = λ name x newer found master grown. by name newer x (is_there at change turns sites name x found) master grown
    where
      by : (name : SiteName) (newer : List Entry) (x : SiteState) (there : IsThere name (at_site at change sites) x) → x.here.is_master ≡ true → x.journal ≡ newer ++ journal_in (site_of name earlier) → list_any (drops_of_master schema) newer ≡ false
      by name newer x there master grown = go (turn_enters x there.site there.turn) refl
        where
          still : there.site.here.is_master ≡ true
          still = ap (λ h. h.is_master) (turn_frame x there.site there.turn).here ∙ master

          go : {journal : List Entry} → Entered x journal → there.site.journal ≡ journal → list_any (drops_of_master schema) newer ≡ false
          go Nothing is = kept name there.site newer there.found still (is ∙ grown)
          go (One e follows) is = (one_kept e newer (kept name there.site (e ∷ newer) there.found still (is ∙ ap (λ es. e ∷ es) grown))).1
  becomes_kept earlier sites _ (Joins site from source absent there may) kept = λ name x newer found master grown. kept name (site_open site x) newer (found_opened sites source site name x absent found) master grown

  module _ (sound : IsSound schema) (decides : DecisionLaws) where
    -- so it is with the sites as they are, where masters have settled all
    pub since_now : (sites : List SiteState) (sent : List Packet) → Facts schema sound decides sites sent
        → ((name origin : SiteName) (x o : SiteState) (position : ℕ) → AreTwo sites name origin x o → 1 ≤ position → count_for name (Some o) + position ≤ count_of o → FinishedWithoutError origin position x.journal)
        → IsSince sites sites
    since_now sites sent facts settled = record {
      have = now_all sites;
      queued = λ name x found master. rw found (omega arith);
      settled = λ name origin x o position two one le. settled name origin x o position two one (subst (λ c. count_for name (Some o) + position ≤ c) (ap count_in two.there) le);
      applied = λ name origin x o position two beyond is.
          let sent_it = finished_sent sites name origin position x.journal (facts.order name x two.found) is.done in
          let same = some_same sent_it.1.sender o (sym sent_it.1.found ∙ two.there) in
          let at = found_position (count_for name (Some sent_it.1.sender) + position) (queue_of sent_it.1.sender) sent_it.0 (sent_number sites name origin position sent_it.0 sent_it.1) in
          absurd (none (count_for name (Some o) + position) (count_of o) (subst (λ c. c < count_for name (Some o) + position) (ap count_in two.there) beyond)
          (subst (λ (s : SiteState). count_for name (Some s) + position ≤ count_of s) same at.1));
    }
      where
        none : (a b : ℕ) → b < a → a ≤ b → ⊥
        none a b less le = omega (arith, less, le)

    -- ---- a turn

    module _ (earlier sites : List SiteState) (at : SiteName) (change : SiteState → SiteState) (turns : (x : SiteState) → Turn x (change x)) (since : IsSince earlier sites) where
      abbrev others : List SiteState
      others = at_site at change sites

      was : (name : SiteName) (y : SiteState) → site_of name others ≡ Some y → WasThere name sites y
      was name y found = was_there at change turns sites name y found

      two_before : (name origin : SiteName) (y p : SiteState) (two : AreTwo others name origin y p) → AreTwo sites name origin (was name y two.found).site (was origin p two.there).site
      two_before name origin y p two =
          let w = was name y two.found in
          record { found = w.found; master = ap (λ h. h.is_master) (sym (turn_frame w.site y w.turn).here) ∙ two.master; there = (was origin p two.there).found; named = two.named; differ = two.differ }

      count_before : (name origin : SiteName) (p : SiteState) (there : site_of origin others ≡ Some p) → count_for name (Some p) ≡ count_for name (Some (was origin p there).site)
      count_before name origin p there = let w = was origin p there in ap count_opened ((turn_frame w.site p w.turn).opened name)

      turned_since : NothingWasDroppedSince schema earlier others → IsSince earlier others
      turned_since kept = record {
        have = becomes_all earlier sites others (Turns at change turns) since.have;
        queued = λ name y found master.
            let w = was name y found in
            let was_master : w.site.here.is_master ≡ true = ap (λ h. h.is_master) (sym (turn_frame w.site y w.turn).here) ∙ master in
            up (count_in (site_of name earlier)) (count_of w.site) (count_of y) (since.queued name w.site w.found was_master) (turn_grows schema sound decides w.site y was_master w.turn);
        settled = λ name origin y p position two one le.
            let w = was name y two.found in
            let le_before = subst (λ c. c + position ≤ count_in (site_of origin earlier)) (count_before name origin p two.there) le in
            go_on (turn_enters w.site y w.turn) origin position (since.settled name origin w.site (was origin p two.there).site position (two_before name origin y p two) one le_before);
        applied = λ name origin y p position two beyond is.
            let w = was name y two.found in
            let beyond_before = subst (λ c. count_in (site_of origin earlier) < c + position) (count_before name origin p two.there) beyond in
            apply_on name y two.found two.master (turn_enters w.site y w.turn) refl origin position two.named
            (since.applied name origin w.site (was origin p two.there).site position (two_before name origin y p two) beyond_before) is;
      }
        where
          up : (a b c : ℕ) → a ≤ b → b ≤ c → a ≤ c
          up a b c le more = omega (arith, le, more)

          go_on : {x : SiteState} {journal : List Entry} → Entered x journal → (origin : SiteName) (position : ℕ) → FinishedWithoutError origin position x.journal → FinishedWithoutError origin position journal
          go_on Nothing origin position is = is
          go_on {x} (One e follows) origin position is = without_error_more x e follows origin position is

          apply_on : (name : SiteName) (y : SiteState) (found : site_of name others ≡ Some y) → y.here.is_master ≡ true → {journal : List Entry} → Entered (was name y found).site journal → y.journal ≡ journal → (origin : SiteName) (position : ℕ)
              → is_master_site schema origin ≡ true → (FinishedWithoutError origin position (was name y found).site.journal → is_applied origin (was name y found).site.journal position ≡ true) → FinishedWithoutError origin position journal
              → is_applied origin journal position ≡ true
          apply_on name y found master Nothing same origin position named before is = before is
          apply_on name y found master (One e follows) same origin position named before is =
              let w = was name y found in
              let has = since.have.each name w.site w.found in
              applied_more schema e w.site.journal (one_kept e has.newer (kept name y (e ∷ has.newer) found master (same ∙ ap (λ es. e ∷ es) has.journal))).0 origin position named before is

    -- ---- a join

    -- how much is in the rows that the new master begins with
    pub joined_count : (sites : List SiteState) (sent more : List Packet) (site from : SiteName) (source : SiteState) → site_of site sites ≡ None → site_of from sites ≡ Some source → may_join sites source site ≡ true
        → Facts schema sound decides sites sent → AreMet schema (with_joined sites source site) more → source.schema ≡ schema
        → (m : SiteName) (y : SiteState) → is_master_site schema m ≡ true → site_of m sites ≡ Some y → m ≢ site → count_for site (Some (site_open site y)) ≡ count_of y
    joined_count sites sent more site from source absent there may facts met_later of_schema m y named is differ =
        let late : is_late_master schema site ≡ true = subst (λ (s : Schema). is_late_master s site ≡ true) of_schema (joins_late sites source site may) in
        let open_to = masters_open schema sound.shape (with_joined sites source site) more met_later site m (copied sites source site) (site_open site y) (found_joined sites source site absent) (found_opened sites source site m y absent is)
        (ap (λ h. h.is_master) (copied_here sites source site)) (declared_master schema sound decides sites sent facts m y is ∙ named) differ in
        let closed : opened_of site y ≡ None = facts.met.closed m site y is late absent in
        let now : opened_of site (site_open site y) ≡ Some (count_of y) = elim (opened_in-opened site site (count_of y) y.destinations) [
          | inl same ↦ absurd (some_none open_to.0 (sym open_to.1 ∙ same ∙ closed))
          | inr now ↦ now.1
        ] in
        ap count_opened now

    module _ (earlier sites : List SiteState) (sent more : List Packet) (site from : SiteName) (source : SiteState) (absent : site_of site sites ≡ None) (there : site_of from sites ≡ Some source) (may : may_join sites source site ≡ true)
        (facts : Facts schema sound decides sites sent) (met_later : AreMet schema (with_joined sites source site) more) (of_schema : source.schema ≡ schema) (since : IsSince earlier sites) where
      abbrev joins : List SiteState
      joins = with_joined sites source site

      abbrev new : SiteState
      new = copied sites source site

      no_journal : new.journal ≡ []
      no_journal = (copied_is_new sites source site).journal

      no_site : site_of site earlier ≡ None
      no_site = since.have.absent site absent

      other_name : (name : SiteName) (x : SiteState) → site_of name sites ≡ Some x → is_same_site site name ≡ false
      other_name name x found = go (is_same_site site name) refl
        where
          go : (b : Bool) → is_same_site site name ≡ b → b ≡ false
          go false is = refl
          go true is = absurd (some_none x (sym found ∙ ap (λ n. site_of n sites) (sym (is_same_site-true site name is)) ∙ absent))

      none_in : count_in (site_of site earlier) ≡ 0
      none_in = ap count_in no_site

      settled_on : (name origin : SiteName) (y p : SiteState) (position : ℕ) → WasJoined sites source site name y → WasJoined sites source site origin p → AreTwo joins name origin y p → 1 ≤ position
          → count_for name (Some p) + position ≤ count_in (site_of origin earlier) → FinishedWithoutError origin position y.journal
      settled_on name origin _ _ position (Old x found) (Old o at) two one le =
          since.settled name origin x o position (record { found = found; master = two.master; there = at; named = two.named; differ = two.differ }) one
          (subst (λ c. count_opened c + position ≤ count_in (site_of origin earlier)) (opened_in-other name site (count_of o) o.destinations (other_name name x found)) le)
      settled_on name origin _ _ position (New is) (Old o at) two one le =
          let differ : origin ≢ site = λ e. two.differ (e ∙ sym is) in
          let count = joined_count sites sent more site from source absent there may facts met_later of_schema origin o two.named at differ in
          let most = since.queued origin o at (declared_master schema sound decides sites sent facts origin o at ∙ two.named) in
          absurd (over (count_for name (Some (site_open site o))) (count_of o) position (count_in (site_of origin earlier)) one le (ap (λ n. count_for n (Some (site_open site o))) is ∙ count) most)
        where
          over : (c n p k : ℕ) → 1 ≤ p → c + p ≤ k → c ≡ n → k ≤ n → ⊥
          over c n p k one le same most = omega (arith, one, le, same, most)
      settled_on name origin y _ position was (New is) two one le =
          absurd (nothing (count_for name (Some new)) position (count_in (site_of origin earlier)) one le (ap (λ n. count_in (site_of n earlier)) is ∙ none_in))
        where
          nothing : (c p k : ℕ) → 1 ≤ p → c + p ≤ k → k ≡ 0 → ⊥
          nothing c p k one le none = omega (arith, one, le, none)

      applied_on : (name origin : SiteName) (y p : SiteState) (position : ℕ) → WasJoined sites source site name y → WasJoined sites source site origin p → AreTwo joins name origin y p
          → count_in (site_of origin earlier) < count_for name (Some p) + position → FinishedWithoutError origin position y.journal → is_applied origin y.journal position ≡ true
      applied_on name origin _ _ position (Old x found) (Old o at) two beyond is =
          since.applied name origin x o position (record { found = found; master = two.master; there = at; named = two.named; differ = two.differ })
          (subst (λ c. count_in (site_of origin earlier) < count_opened c + position) (opened_in-other name site (count_of o) o.destinations (other_name name x found)) beyond) is
      applied_on name origin _ _ position (Old x found) (New same) two beyond is =
          let sent_it = finished_sent sites name origin position x.journal (facts.order name x found) is.done in
          absurd (some_none sent_it.1.sender (sym sent_it.1.found ∙ ap (λ n. site_of n sites) same ∙ absent))
      applied_on name origin _ p position (New same) was two beyond is =
          absurd (true≢false (sym is.done ∙ ap (λ j. finished origin j position) no_journal))

      joined_since : IsSince earlier joins
      joined_since = record {
        have = becomes_all earlier sites joins (Joins site from source absent there may) since.have;
        queued = λ name y found master. queued_on name y master (was_joined sites source site name y found);
        settled = λ name origin y p position two one le. settled_on name origin y p position (was_joined sites source site name y two.found) (was_joined sites source site origin p two.there) two one le;
        applied = λ name origin y p position two beyond is. applied_on name origin y p position (was_joined sites source site name y two.found) (was_joined sites source site origin p two.there) two beyond is;
      }
        where
          queued_on : (name : SiteName) (y : SiteState) → y.here.is_master ≡ true → WasJoined sites source site name y → count_in (site_of name earlier) ≤ count_of y
          queued_on name _ master (Old x found) = since.queued name x found master
          queued_on name _ master (New is) = rw (ap (λ n. count_in (site_of n earlier)) is ∙ none_in) (omega arith)

    -- ---- each event

    pub becomes_since : (earlier sites others : List SiteState) (sent more : List Packet) → Becomes sites others → Facts schema sound decides sites sent → AreMet schema others more
        → ((name : SiteName) (x : SiteState) → site_of name sites ≡ Some x → x.schema ≡ schema) → NothingWasDroppedSince schema earlier others → IsSince earlier sites → IsSince earlier others
    becomes_since earlier sites _ sent more Stays facts met_later same kept since = since
    becomes_since earlier sites _ sent more (Turns at change turns) facts met_later same kept since = turned_since earlier sites at change turns since kept
    becomes_since earlier sites _ sent more (Joins site from source absent there may) facts met_later same kept since =
        joined_since earlier sites sent more site from source absent there may facts met_later (same from source there) since
