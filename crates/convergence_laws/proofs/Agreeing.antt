-- Whatever happened, masters that are quiet agree, if they ever agreed where they were quiet.
use Rattle.std.proofs.Common.{◌≡◌, ◌≢◌, ℕ, ◌+◌, ◌<◌, ◌≤◌, List, [], ◌∷◌, ◌++◌, length, Bool, true, false, Some, None, pos, refl, sym, ap, ◌∙◌, subst, inl, inr, arith, append-nil}
use Rattle.std.specs.Prelude.{ℤ, ◌||◌, ◌⊎◌, Option}
use Rattle.std.specs.List.{AllByRecursion, list_any}
use Rattle.std.specs.declared.cmp.Ordering.TheVariants.{Equal}
use mathlib.Core.Bool.{true≢false}
use Rattle.rep_values.specs.declared.name.SiteName.{SiteName}
use Rattle.rep_values.specs.declared.value.Value.TheVariants.{Num, Words}
use Rattle.rep_values.specs.Order.{key_cmp}
use Rattle.rep_schema.specs.declared.schema.Schema.{Schema}
use Rattle.rep_schema.specs.Tables.{Cells, Rows, columns_of, find_row, rows_of, AreTables}
use Rattle.rep_schema.specs.Groups.{group_columns_of}
use Rattle.schema_rules.specs.declared.forms.Form.TheVariants as form
use Rattle.rep_calls.specs.declared.call.Call.{Call}
use Rattle.rep_calls.specs.declared.call.Txn.{Txn}
use Rattle.resolve_methods.specs.Ranks.{site_level_of}
use Rattle.packet_code.specs.declared.packet.Packet.{Packet}
use Rattle.txn_effects.specs.Convergent.{is_convergent}
use Rattle.site_state.specs.declared.entry.Entry.{Entry}
use Rattle.site_state.specs.State.{SiteState, arrived_at}
use Rattle.rep_schema.specs.Sites.{is_among}
use Rattle.site_state.specs.Journal.{error_at}
use Rattle.site_state.specs.Contents.{journal_content, tables_of}
use Rattle.site_state.specs.Streams.{queue_after, count_of}
use Rattle.site_events.specs.Cluster.{Cluster, site_of, at_site}
use Rattle.site_events.specs.Events.{Event, is_master_in, run}
use Rattle.event_laws.specs.Marks.{journal_in}
use Rattle.event_laws.specs.Orders.{IsInOrder}
use Rattle.site_events.specs.Quiet.{are_quiet}
use Rattle.event_laws.specs.Starts.{IsNewSite}
use Rattle.event_laws.specs.Fitting.{IsFitStart}
use Rattle.event_laws.specs.Waiting.{SitesLinkAsDeclared}
use Rattle.event_laws.proofs.Runs.{run-append}
use Rattle.event_laws.proofs.Sites.{found_all, found_again, found_changed}
use Rattle.event_laws.proofs.DeclaredSites.{IsSiteOf}
use Rattle.event_laws.proofs.Meeting.{SiteMeets, MeetsAt}
use Rattle.event_laws.proofs.OrderLaws.{earlier_comes_first}
use Rattle.event_laws.proofs.FittingSites.{every_site_fits}
use Rattle.event_laws.proofs.Waiting.{AreMet, run_met}
use Rattle.rep_laws.specs.GroupForms.{form_at, value_of, level_alone, wins}
use Rattle.convergence_laws.specs.Joins.{parts_in}
use Rattle.convergence_laws.specs.Collections.{Then, TellApart}
use Rattle.convergence_laws.proofs.AnyOrder.{reordered_back}
use Rattle.convergence_laws.specs.Pairs.{calls_in, pair_in}
use Rattle.convergence_laws.specs.QuietAgreement.{drops_of_master, NothingWasDroppedSince, MastersAgree, QuietMastersAgree, QuietMastersAgreeAgain}
use Rattle.convergence_laws.proofs.Turns.{Cause, Now, Late, Becomes, Stays, Turns, Joins, happens_becomes}
use Rattle.convergence_laws.proofs.SitesAt.{Each, turns_here, at_none}
use Rattle.convergence_laws.proofs.Reordering.{calls_reordered, above}
use Rattle.convergence_laws.proofs.Applied.{IsShaped, none_shaped, error_finished}
use Rattle.convergence_laws.proofs.Told.{IsOwnValue, AreTold, told_calls, Known}
use Rattle.convergence_laws.proofs.PairsTell.{Lower, of_schema, known, run_told, made_own, own_same}
use Rattle.convergence_laws.proofs.Families.{masters_of, joined_by, queue_in, count_for, count_in, pieces_of, arrived_among}
use Rattle.convergence_laws.proofs.Facts.{some_there, is_named, Facts, declared_master}
use Rattle.convergence_laws.proofs.Since.{IsSince, becomes_kept, since_now, becomes_since}
use Rattle.convergence_laws.proofs.Ties.{master_named, sender_named, same_level, has_level, tie_first, pair_split}
use Rattle.convergence_laws.proofs.Rooted.{Among-parts_in}
use Rattle.convergence_laws.proofs.Histories.{History}
use Rattle.convergence_laws.proofs.QuietPieces.{quiet_pieces, quiet_since}
use Rattle.convergence_laws.proofs.QuietMasters.{becomes_shaped, Family, turned_by, joined_family, first_family}
use Rattle.convergence_laws.proofs.AgreedRows.{new_values, rows_same}

-- ---- where masters agree

-- rows of each convergent table, which all masters have
record AllHave (schema : Schema) (sites : List SiteState) : Type 0 where
  first : ℕ → Rows
  have : (name : SiteName) (x : SiteState) (table : ℕ) → site_of name sites ≡ Some x → x.here.is_master ≡ true → is_convergent schema table ≡ true → rows_of (tables_of x) table ≡ first table

module _ (schema : Schema) (sites : List SiteState) (agree : MastersAgree schema sites) where
  abbrev AMaster : Type 0
  AMaster = (name : SiteName) × (x : SiteState) × (site_of name sites ≡ Some x) × (x.here.is_master ≡ true)

  abbrev NoMaster : List SiteState → Type 0
  NoMaster l = AllByRecursion (λ (s : SiteState). is_master_in (site_of s.here.site sites) ≡ false) l

  search : (l : List SiteState) → AMaster ⊎ NoMaster l
  search [] = inr tt
  search (s ∷ ss) = go (site_of s.here.site sites) refl (search ss)
    where
      go : (o : Option SiteState) → site_of s.here.site sites ≡ o → AMaster ⊎ NoMaster ss → AMaster ⊎ NoMaster (s ∷ ss)
      go o at (inl found) = inl found
      go None at (inr none) = inr (ap is_master_in at, none)
      go (Some x) at (inr none) = by x.here.is_master refl
        where
          by : (m : Bool) → x.here.is_master ≡ m → AMaster ⊎ NoMaster (s ∷ ss)
          by true master = inl (s.here.site, x, at, master)
          by false plain = inr (ap is_master_in at ∙ plain, none)

  all_have : AllHave schema sites
  all_have = go (search sites)
    where
      go : AMaster ⊎ NoMaster sites → AllHave schema sites
      go (inl one) = record {
        first = λ table. rows_of (tables_of one.1) table;
        have = λ name x table found master convergent. agree name one.0 x one.1 table found one.2 master one.3 convergent;
      }
      go (inr none) = record {
        first = λ table. [];
        have = λ name x table found master convergent.
            let plain = found_all (λ (s : SiteState). is_master_in (site_of s.here.site sites) ≡ false) name sites x none found in
            absurd (true≢false (sym master ∙ sym (ap is_master_in (found_again name sites x found)) ∙ plain));
      }

-- ---- every run

module _ (lower : Lower) (schema : Schema) (start : Cluster) (is : IsFitStart schema start) (meshed : SitesLinkAsDeclared schema start.sites) where
  abbrev sites_after : List Event → List SiteState
  sites_after events = (run events start).sites

  met_after : (events : List Event) → AreMet schema (sites_after events) (run events start).sent
  met_after events = run_met schema start events is.start meshed

  -- what a site does came from a declared one
  pub senders_named : (events : List Event) (name : SiteName) (x : SiteState) → site_of name (sites_after events) ≡ Some x → (origin : SiteName) (position number : ℕ) (txn : Txn) (e : Entry) → Cause x origin position number txn e → is_named schema origin ≡ true
  senders_named events name x found origin position number txn e cause =
      let meets : SiteMeets (sites_after events) name x = subst (MeetsAt (sites_after events) name) found ((met_after events).meets.each name) in
      let declared = (found_all (IsSiteOf schema) name (sites_after events) x (met_after events).sites_of found).declared in
      sender_named schema x.here.site origin (subst (λ names. is_among names origin ≡ true) declared.senders (arrived_among origin position x.senders (come cause meets)))
    where
      come : {e : Entry} → Cause x origin position number txn e → SiteMeets (sites_after events) name x → arrived_at origin position x.senders ≢ None
      come (Now at) meets = some_there (arrived_at origin position x.senders) at.arrival at.there
      come (Late er at same) meets = meets.arrived origin position (error_finished origin position x.journal (some_there (error_at origin position x.journal) er at))

  shaped_after : (events : List Event) → Each (λ x. IsShaped x.journal) (sites_after events)
  shaped_after [] = λ name x found. rw (found_all (IsNewSite schema) name start.sites x is.start.sites found).journal none_shaped
  shaped_after (e ∷ es) = becomes_shaped (sites_after es) (sites_after (e ∷ es)) (happens_becomes e (run es start)) (shaped_after es)

  -- what is known of the sites after events
  pub facts_after : (events : List Event) → Facts schema is.sound lower.decides (sites_after events) (run events start).sent
  facts_after events = record {
    met = met_after events;
    shaped = shaped_after events;
    order = λ name x found. subst (λ o. IsInOrder (sites_after events) name (journal_in o)) found (earlier_comes_first schema start events is.start name);
    told = run_told (is_named schema) lower schema start is senders_named events;
  }

  same_schema : (events : List Event) (name : SiteName) (x : SiteState) → site_of name (sites_after events) ≡ Some x → x.schema ≡ schema
  same_schema = of_schema (is_named schema) lower schema start is senders_named

  -- ---- from some events on

  module _ (events : List Event) (now : IsSince schema (sites_after events) (sites_after events)) where
    abbrev earlier : List SiteState
    earlier = sites_after events

    abbrev later : List Event → List SiteState
    later more = sites_after (more ++ events)

    becomes : (e : Event) (more : List Event) → Becomes (later more) (later (e ∷ more))
    becomes e more = happens_becomes e (run (more ++ events) start)

    kept_before : (e : Event) (more : List Event) → NothingWasDroppedSince schema earlier (later (e ∷ more)) → NothingWasDroppedSince schema earlier (later more)
    kept_before e more kept = becomes_kept schema earlier (later more) (later (e ∷ more)) (becomes e more) kept

    since_after : (more : List Event) → NothingWasDroppedSince schema earlier (later more) → IsSince schema earlier (later more)
    since_after [] kept = now
    since_after (e ∷ more) kept = becomes_since schema is.sound lower.decides earlier (later more) (later (e ∷ more)) (run (more ++ events) start).sent (run (e ∷ more ++ events) start).sent (becomes e more)
        (facts_after (more ++ events)) (met_after (e ∷ more ++ events)) (same_schema (more ++ events)) kept (since_after more (kept_before e more kept))

    module _ (all : AllHave schema earlier) where
      abbrev IsFamily : List SiteState → Type 0
      IsFamily sites = Family schema is.sound lower.decides all.first earlier sites

      becomes_family : (sites others : List SiteState) (sent more : List Packet) → Becomes sites others → Facts schema is.sound lower.decides sites sent → AreMet schema others more
          → ((name : SiteName) (x y : SiteState) → site_of name sites ≡ Some x → site_of name others ≡ Some y → Known (is_named schema) schema is.sound lower.decides sites others name x y)
          → ((name : SiteName) (x : SiteState) → site_of name sites ≡ Some x → x.schema ≡ schema) → IsSince schema earlier sites → IsFamily sites → IsFamily others
      becomes_family sites _ sent more Stays facts met_later knows same since family = family
      becomes_family sites _ sent more (Turns name change turns) facts met_later knows same since family = go (site_of name sites) refl
        where
          go : (o : Option SiteState) → site_of name sites ≡ o → IsFamily (at_site name change sites)
          go None none = subst IsFamily (sym (at_none name change sites none)) family
          go (Some x) found = turned_by schema is.sound lower.decides all.first earlier sites sent name change turns facts since family x found (knows name x (change x) found (found_changed name change sites x (turns_here change turns) found))
              (λ master. master_named name schema.sites (sym (declared_master schema is.sound lower.decides sites sent facts name x found) ∙ master))
      becomes_family sites _ sent more (Joins site from source absent there may) facts met_later knows same since family =
          joined_family schema is.sound lower.decides all.first earlier sites sent more site from source absent there may facts met_later (same from source there) since family

      family_after : (more : List Event) → NothingWasDroppedSince schema earlier (later more) → IsFamily (later more)
      family_after [] kept = first_family schema is.sound lower.decides all.first earlier all.have
      family_after (e ∷ more) kept =
          let before = kept_before e more kept in
          becomes_family (later more) (later (e ∷ more)) (run (more ++ events) start).sent (run (e ∷ more ++ events) start).sent (becomes e more) (facts_after (more ++ events)) (met_after (e ∷ more ++ events))
          (known (is_named schema) lower schema start is senders_named e (more ++ events)) (same_schema (more ++ events)) (since_after more before) (family_after more before)

  -- ---- new values tell apart

  module _ (events : List Event) (table group stamp own : ℕ) (key : Cells) (convergent : is_convergent schema table ≡ true) (has : form_at schema table group ≡ Some (form.Latest stamp own)) where
    abbrev places : List ℕ
    places = group_columns_of schema table group

    abbrev IsOwn : Cells → Type 0
    IsOwn v = IsOwnValue (is_named schema) schema (sites_after events) table key group v

    -- the number and the site of own values
    pub record IsStamped (v : Cells) : Type 0 where
      pub number : ℕ
      pub above : 0 < number
      pub site : SiteName
      pub named : is_named schema site ≡ true
      pub pair : pair_in places stamp own v ≡ Num (pos number) ∷ Words site.0 ∷ []

    pub stamped : (v : Cells) → IsOwn v → IsStamped v
    stamped v o =
        let m = made_own (is_named schema) lower schema start is senders_named events table group stamp own key convergent has v o in
        record { number = m.0; above = m.2; site = o.site.here.site; named = o.passes; pair = m.1 }

    pub tied_numbers : (v w : Cells) (n m : ℤ) → value_of places v stamp ≡ Some (Num n) → value_of places w stamp ≡ Some (Num m) → wins schema places (form.Latest stamp own) v w ≡ Equal
        → (n ≡ m) × (key_cmp (level_alone (site_level_of schema (value_of places v own))) (level_alone (site_level_of schema (value_of places w own))) ≡ Equal)
    tied_numbers v w n m at at_too tie =
        tie_first n m (level_alone (site_level_of schema (value_of places v own))) (level_alone (site_level_of schema (value_of places w own))) (rw (at, at_too) at tie)

    -- two of them that tie are the same
    pub own_tie : (v w : Cells) → IsOwn v → IsOwn w → wins schema places (form.Latest stamp own) v w ≡ Equal → v ≡ w
    own_tie v w a b tie =
        let s = stamped v a in
        let t = stamped w b in
        let one = pair_split (value_of places v stamp) (value_of places v own) (Num (pos s.number)) (Words s.site.0) s.pair in
        let two = pair_split (value_of places w stamp) (value_of places w own) (Num (pos t.number)) (Words t.site.0) t.pair in
        let tied = tied_numbers v w (pos s.number) (pos t.number) one.0 two.0 tie in
        let l = has_level schema is.sound table convergent s.site s.named in
        let k = has_level schema is.sound table convergent t.site t.named in
        let levels = tie_first l.0 k.0 [] [] (ap (λ o. key_cmp (level_alone o) (Num k.0 ∷ [])) (sym l.1) ∙ ap (λ o. key_cmp (level_alone (site_level_of schema (Some (Words s.site.0)))) (level_alone o)) (sym k.1)
        ∙ ap (λ o. key_cmp (level_alone (site_level_of schema o)) (level_alone (site_level_of schema (Some (Words t.site.0))))) (sym one.1)
        ∙ ap (λ o. key_cmp (level_alone (site_level_of schema (value_of places v own))) (level_alone (site_level_of schema o))) (sym two.1) ∙ tied.1) in
        let sites = same_level schema is.sound table convergent s.site t.site s.named t.named (l.1 ∙ ap Some levels.0 ∙ sym k.1) in
        own_same (is_named schema) lower schema start is senders_named events table group stamp own key convergent has v w a b
        (s.pair ∙ ap (λ z. Num z ∷ Words s.site.0 ∷ []) tied.0 ∙ ap (λ (n : SiteName). Num (pos t.number) ∷ Words n.0 ∷ []) sites ∙ sym t.pair)

    tell_apart : (calls : List Call) → AreTold (is_named schema) schema (sites_after events) calls → TellApart schema places (form.Latest stamp own) (new_values (parts_in table key group calls))
    tell_apart calls told v w one other tie =
        own_tie v w (told table group stamp own key v convergent has (Among-parts_in schema table key group calls v one)) (told table group stamp own key w convergent has (Among-parts_in schema table key group calls w other)) tie

-- ---- agreement

-- from some events on
agree_since : (lower : Lower) (schema : Schema) (start : Cluster) (events more : List Event) (is : IsFitStart schema start) (meshed : SitesLinkAsDeclared schema start.sites) → IsSince schema (run events start).sites (run events start).sites
    → MastersAgree schema (run events start).sites → are_quiet (run (more ++ events) start).sites ≡ true → NothingWasDroppedSince schema (run events start).sites (run (more ++ events) start).sites
    → MastersAgree schema (run (more ++ events) start).sites
agree_since lower schema start events more is meshed now agree quiet kept one other x y table found there master other_master convergent =
    rows_same schema is.sound lower.decides table convergent (λ key. find_row (columns_of schema table) key (all.first table)) (tables_of x) (tables_of y) (are one x found) (are other y there) (calls_in h.history) (calls_in k.history)
    (calls_reordered (Then (rw (has_all one x found master) at h.same) (reordered_back (rw (has_all other y there other_master) at k.same))))
    (λ group key. h.came table group key convergent) (λ group key. k.came table group key convergent)
    (λ group stamp own key has. tell_apart lower schema start is meshed (more ++ events) table group stamp own key convergent has (calls_in h.history) (told_calls (is_named schema) schema sites h.history h.told))
  where
    sites : List SiteState
    sites = (run (more ++ events) start).sites

    earlier : List SiteState
    earlier = (run events start).sites

    all : AllHave schema earlier
    all = all_have schema earlier agree

    family : Family schema is.sound lower.decides all.first earlier sites
    family = family_after lower schema start is meshed events now all more kept

    h : History schema is.sound lower.decides all.first earlier family.extra sites x
    h = family.each one x found master

    k : History schema is.sound lower.decides all.first earlier family.extra sites y
    k = family.each other y there other_master

    are : (n : SiteName) (z : SiteState) → site_of n sites ≡ Some z → AreTables schema (tables_of z)
    are n z at = subst (λ (s : Schema). AreTables s (tables_of z)) (same_schema lower schema start is meshed (more ++ events) n z at) (every_site_fits schema start (more ++ events) is n z at).content.tables

    has_all : (n : SiteName) (z : SiteState) → site_of n sites ≡ Some z → z.here.is_master ≡ true
        → pieces_of schema earlier z sites ≡ joined_by (λ (m : SiteName). above (count_in (site_of m earlier)) (queue_in (site_of m sites))) (masters_of schema)
    has_all n z at z_master = quiet_pieces schema is.sound lower.decides sites (run (more ++ events) start).sent (facts_after lower schema start is meshed (more ++ events)) quiet n z at
        (same_schema lower schema start is meshed (more ++ events) n z at) z_master earlier (since_after lower schema start is meshed events now more kept)

pub quiet_masters_agree_again : Lower → QuietMastersAgreeAgain
quiet_masters_agree_again lower schema start events more is meshed quiet agree =
    subst (λ (w : Cluster). are_quiet w.sites ≡ true → NothingWasDroppedSince schema (run events start).sites w.sites → MastersAgree schema w.sites) (run-append more events start)
    (agree_since lower schema start events more is meshed now agree)
  where
    now : IsSince schema (run events start).sites (run events start).sites
    now = quiet_since schema is.sound lower.decides (run events start).sites (run events start).sent (facts_after lower schema start is meshed events) quiet (same_schema lower schema start is meshed events)

-- of fewer entries fewer drop
none_in_front : (schema : Schema) (newer older : List Entry) → list_any (drops_of_master schema) (newer ++ older) ≡ false → list_any (drops_of_master schema) newer ≡ false
none_in_front schema [] older kept = refl
none_in_front schema (e ∷ newer) older kept = go (drops_of_master schema e) kept (none_in_front schema newer older)
  where
    go : (b : Bool) → (b || list_any (drops_of_master schema) (newer ++ older)) ≡ false → (list_any (drops_of_master schema) (newer ++ older) ≡ false → list_any (drops_of_master schema) newer ≡ false)
        → (b || list_any (drops_of_master schema) newer) ≡ false
    go true kept later = kept
    go false kept later = later kept

-- where masters begin alike they agree before any event
pub quiet_masters_agree : Lower → QuietMastersAgree
quiet_masters_agree lower schema start events is meshed alike quiet kept =
    subst (λ (es : List Event). are_quiet (run es start).sites ≡ true → NothingWasDroppedSince schema start.sites (run es start).sites → MastersAgree schema (run es start).sites) (append-nil events)
    (agree_since lower schema start [] events is meshed now agree) quiet (λ name x newer found master grown. none_in_front schema newer (journal_in (site_of name start.sites)) (sym (ap (list_any (drops_of_master schema)) grown) ∙ kept name x found master))
  where
    new : (name : SiteName) (x : SiteState) → site_of name start.sites ≡ Some x → x.journal ≡ []
    new name x found = (found_all (IsNewSite schema) name start.sites x is.start.sites found).journal

    its_base : (name : SiteName) (x : SiteState) → site_of name start.sites ≡ Some x → tables_of x ≡ x.base
    its_base name x found = ap (λ j. (journal_content x.schema x.here.site x.base j).tables) (new name x found)

    agree : MastersAgree schema start.sites
    agree one other x y table found there master other_master convergent =
        ap (λ ts. rows_of ts table) (its_base one x found) ∙ alike one other x y table found there master other_master convergent ∙ sym (ap (λ ts. rows_of ts table) (its_base other y there))

    now : IsSince schema start.sites start.sites
    now = since_now schema is.sound lower.decides start.sites start.sent (facts_after lower schema start is meshed [])
        (λ name origin x o position two one le. absurd (none (count_for name (Some o)) position (count_of o) one le (ap (λ j. length (queue_after o.schema o.here o.base j)) (new origin o two.there))))
      where
        none : (c p n : ℕ) → 1 ≤ p → c + p ≤ n → n ≡ 0 → ⊥
        none c p n one le is = omega (arith, one, le, is)
