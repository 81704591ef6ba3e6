-- Masters that are quiet have the same rows of convergent tables.
use Rattle.std.proofs.Common.{◌≡◌, ◌≢◌, ℕ, ◌≤◌, List, [], ◌∷◌, ◌++◌, Bool, true, false, cond, Some, None, refl, sym, ap, ◌∙◌, subst, inl, inr, arith}
use Rattle.std.specs.Prelude.{◌&&◌, Option, nat_le, nat_lt}
use Rattle.std.specs.Option.{option_map}
use Rattle.std.specs.List.{AllByRecursion}
use mathlib.Core.Bool.{true≢false}
use Rattle.std.proofs.lemmas.Bool.Decides.{nat_tests}
use Rattle.rep_values.specs.declared.name.SiteName.{SiteName}
use Rattle.rep_schema.specs.declared.schema.Schema.{Schema}
use Rattle.rep_schema.specs.Tables.{Rows, columns_of, find_row, rows_of}
use Rattle.rep_calls.specs.declared.call.Txn.{Txn}
use Rattle.rep_laws.specs.Commuting.{IsSound}
use Rattle.rep_values.specs.SiteNames.{is_same_site}
use Rattle.deferred_queue.proofs.Sites.{is_same_site-true, is_same_site-refl}
use Rattle.packet_code.specs.declared.packet.Packet.{Packet}
use Rattle.txn_effects.specs.Convergent.{is_convergent}
use Rattle.site_state.specs.declared.entry.Entry.{Entry}
use Rattle.site_state.specs.State.{SiteState}
use Rattle.rep_schema.specs.Sites.{is_master_site}
use Rattle.site_state.specs.Contents.{journal_content, tables_of}
use Rattle.site_state.specs.Streams.{queue_of, count_of}
use Rattle.site_state.specs.Joining.{site_open}
use Rattle.site_state.specs.Packets.{count_opened}
use Rattle.site_state.proofs.Destinations.{opened_in-other}
use Rattle.site_events.specs.Cluster.{site_of, at_site}
use Rattle.site_events.specs.Joins.{copied, may_join, with_joined}
use Rattle.site_events.specs.Quiet.{are_quiet}
use Rattle.event_laws.proofs.Sites.{found_name, found_or, site_of-joined, found_changed, found_other}
use Rattle.event_laws.proofs.NewSites.{copied_is_new, copied_here}
use Rattle.event_laws.proofs.DeclaredSites.{joins_from_master}
use Rattle.event_laws.proofs.Waiting.{AreMet}
use Rattle.convergence_laws.specs.Collections.{IsReordered}
use Rattle.convergence_laws.proofs.Moves.{DecisionLaws}
use Rattle.convergence_laws.proofs.RowsCome.{Came, came_not}
use Rattle.convergence_laws.proofs.CallsCome.{row_in}
use Rattle.convergence_laws.specs.Pairs.{calls_in}
use Rattle.convergence_laws.specs.Joins.{parts_in, inserts_in}
use Rattle.convergence_laws.proofs.Reordering.{reordered_as, chosen, chosen-same, above}
use Rattle.convergence_laws.proofs.Turns.{Turn, Becomes, Stays, Turns, Joins}
use Rattle.convergence_laws.proofs.SitesAt.{Each, turns_here, Entered, Nothing, One, turn_enters, WasJoined, Old, New, was_joined, at_each, joined_each}
use Rattle.event_laws.proofs.JoinedSites.{found_opened, copied_base}
use Rattle.convergence_laws.proofs.Applied.{IsShaped, shaped_more, none_shaped}
use Rattle.convergence_laws.proofs.Told.{TxnIsTold, all_told_later, Known, becomes_more}
use Rattle.convergence_laws.proofs.Families.{masters_of, Are-masters, joined_by, joined_same, queue_in, count_for, count_in, has_number, piece_of, piece_empty}
use Rattle.convergence_laws.proofs.Facts.{is_named, Facts}
use Rattle.convergence_laws.proofs.Since.{IsSince, joined_count}
use Rattle.convergence_laws.proofs.Histories.{History, history_other, Later, later_history}
use Rattle.convergence_laws.proofs.QuietPieces.{quiet_pieces}

-- ---- what is applied is finished

turn_shaped : (x y : SiteState) → Turn x y → IsShaped x.journal → IsShaped y.journal
turn_shaped x y turn shaped = by (turn_enters x y turn)
  where
    by : {journal : List Entry} → Entered x journal → IsShaped journal
    by Nothing = shaped
    by (One e follows) = shaped_more x e follows shaped

pub becomes_shaped : (sites others : List SiteState) → Becomes sites others → Each (λ x. IsShaped x.journal) sites → Each (λ x. IsShaped x.journal) others
becomes_shaped sites _ Stays all = all
becomes_shaped sites _ (Turns name change turns) all = at_each (λ x. IsShaped x.journal) name change sites (turns_here change turns) (λ x found shaped. turn_shaped x (change x) (turns x) shaped) all
becomes_shaped sites _ (Joins site from source absent found may) all =
    joined_each (λ x. IsShaped x.journal) sites source site (λ x shaped. shaped) (rw (copied_is_new sites source site).journal none_shaped) all

is_quiet_join : (sites : List SiteState) (source : SiteState) (site : SiteName) → may_join sites source site ≡ true → are_quiet sites ≡ true
is_quiet_join sites source site may = second _ (are_quiet sites) may
  where
    second : (a b : Bool) → (a && b) ≡ true → b ≡ true
    second true b e = e
    second false b e = cc

module _ (schema : Schema) (sound : IsSound schema) (decides : DecisionLaws) (first : ℕ → Rows) (earlier : List SiteState) where
  -- every master has a history, with the same of what no other one had
  pub record Family (sites : List SiteState) : Type 0 where
    pub extra : List Txn
    pub each : (name : SiteName) (x : SiteState) → site_of name sites ≡ Some x → x.here.is_master ≡ true → History schema sound decides first earlier extra sites x

  -- ---- one turn

  module _ (sites : List SiteState) (sent : List Packet) (name : SiteName) (change : SiteState → SiteState) (turns : (x : SiteState) → Turn x (change x)) (facts : Facts schema sound decides sites sent) (since : IsSince schema earlier sites) (family : Family sites) where
    abbrev others : List SiteState
    others = at_site name change sites

    here : (x : SiteState) → (change x).here ≡ x.here
    here = turns_here change turns

    pub turned_by : (x : SiteState) → site_of name sites ≡ Some x → Known (is_named schema) schema sound decides sites others name x (change x) → (x.here.is_master ≡ true → is_named schema name ≡ true) → Family others
    turned_by x found known named = go x.here.is_master refl
      where
        elsewhere : (n : SiteName) → is_same_site name n ≡ false → site_of n others ≡ site_of n sites
        elsewhere n other = found_other name n change sites here other

        own : (n : SiteName) (u : SiteState) → site_of n others ≡ Some u → is_same_site name n ≡ true → u ≡ change x
        own n u there same = some_same u (change x) (sym there ∙ ap (λ k. site_of k others) (sym (is_same_site-true name n same)) ∙ found_changed name change sites x here found)
          where
            some_same : (a b : SiteState) → Some a ≡ Some b → a ≡ b
            some_same a b e = cc

        go : (m : Bool) → x.here.is_master ≡ m → Family others
        go true master = record {
          extra = later.more ++ family.extra;
          each = λ n u there u_master. by n u there u_master (is_same_site name n) refl;
        }
          where
            later : Later schema sound decides first earlier sites others sent facts since name x (change x) known named (turns x) elsewhere master family.extra
            later = later_history schema sound decides first earlier sites others sent facts since name x (change x) known named (turns x) elsewhere master family.extra (family.each name x found master) (turns x)

            by : (n : SiteName) (u : SiteState) → site_of n others ≡ Some u → u.here.is_master ≡ true → (b : Bool) → is_same_site name n ≡ b → History schema sound decides first earlier (later.more ++ family.extra) others u
            by n u there u_master true same = subst (λ (z : SiteState). History schema sound decides first earlier (later.more ++ family.extra) others z) (sym (own n u there same)) later.history
            by n u there u_master false other = elim later.alone [
              | inl none ↦ subst (λ ts. History schema sound decides first earlier (ts ++ family.extra) others u) (sym none)
                  (history_other schema sound decides first earlier sites others sent facts since name x (change x) known named (turns x) elsewhere family.extra n u before u_master other (family.each n u before u_master))
              | inr alone ↦ absurd (alone n u before u_master other)
            ]
              where
                before : site_of n sites ≡ Some u
                before = sym (elsewhere n other) ∙ there
        go false plain = record {
          extra = family.extra;
          each = λ n u there u_master. by n u there u_master (is_same_site name n) refl;
        }
          where
            by : (n : SiteName) (u : SiteState) → site_of n others ≡ Some u → u.here.is_master ≡ true → (b : Bool) → is_same_site name n ≡ b → History schema sound decides first earlier family.extra others u
            by n u there u_master true same = absurd (true≢false (sym u_master ∙ ap (λ (z : SiteState). z.here.is_master) (own n u there same) ∙ ap (λ h. h.is_master) (here x) ∙ plain))
            by n u there u_master false other =
                let before : site_of n sites ≡ Some u = sym (elsewhere n other) ∙ there in
                history_other schema sound decides first earlier sites others sent facts since name x (change x) known named (turns x) elsewhere family.extra n u before u_master other (family.each n u before u_master)

  -- ---- a join

  abbrev least : SiteName → ℕ
  least n = count_in (site_of n earlier)

  module _ (sites : List SiteState) (sent more : List Packet) (site from : SiteName) (source : SiteState) (absent : site_of site sites ≡ None) (there : site_of from sites ≡ Some source) (may : may_join sites source site ≡ true)
      (facts : Facts schema sound decides sites sent) (met_later : AreMet schema (with_joined sites source site) more) (of_schema : source.schema ≡ schema) (since : IsSince schema earlier sites) (family : Family sites) where
    abbrev joins : List SiteState
    joins = with_joined sites source site

    abbrev new : SiteState
    new = copied sites source site

    new_name : new.here.site ≡ site
    new_name = ap (λ h. h.site) (copied_here sites source site)

    new_tables : tables_of new ≡ tables_of source
    new_tables = ap (λ j. (journal_content new.schema new.here.site new.base j).tables) (copied_is_new sites source site).journal ∙ copied_base sites source site

    -- who isn't there yet has nothing
    absent_piece : (x : SiteState) (m : SiteName) → site_of m sites ≡ None → piece_of (least m) x m (site_of m joins) ≡ []
    absent_piece x m none = piece_empty (least m) x m (site_of m joins) (subst (λ c. c ≤ least m) (sym nothing) (omega arith))
      where
        by : (b : Bool) → count_in (cond b (Some new) None) ≡ 0
        by true = rw (copied_is_new sites source site).journal refl
        by false = refl

        nothing : count_in (site_of m joins) ≡ 0
        nothing = ap count_in (site_of-joined m (site_open site) sites new (λ y. refl) ∙ ap (λ o. found_or (site_of m (new ∷ [])) (option_map (site_open site) o)) none) ∙ by (is_same_site new.here.site m)

    told_later_all : (txns : List Txn) → AllByRecursion (TxnIsTold (is_named schema) schema sites) txns → AllByRecursion (TxnIsTold (is_named schema) schema joins) txns
    told_later_all txns all = all_told_later (is_named schema) schema sites joins txns (becomes_more sites joins (Joins site from source absent there may)) all

    -- a master that was there
    opened_history : (n : SiteName) (z : SiteState) → site_of n sites ≡ Some z → z.here.is_master ≡ true → History schema sound decides first earlier family.extra joins (site_open site z)
    opened_history n z found master =
        let h = family.each n z found master in
        record {
          history = h.history;
          came = h.came;
          same = subst (λ ps. IsReordered h.history (family.extra ++ ps)) (sym (joined_same (λ (m : SiteName). is_master_site schema m ≡ true) (λ (m : SiteName). piece_of (least m) (site_open site z) m (site_of m joins)) (λ (m : SiteName). piece_of (least m) z m (site_of m sites)) (masters_of schema) (Are-masters schema)
              (λ m named. piece m (site_of m sites) refl))) h.same;
          told = told_later_all h.history h.told;
        }
      where
        off : is_same_site site z.here.site ≡ false
        off = go (is_same_site site z.here.site) refl
          where
            go : (b : Bool) → is_same_site site z.here.site ≡ b → b ≡ false
            go false is = refl
            go true is =
                let none : site_of n sites ≡ None = subst (λ k. site_of k sites ≡ None) (is_same_site-true site z.here.site is ∙ found_name n sites z found) absent in
                absurd (cc (none, found))

        piece : (m : SiteName) (o : Option SiteState) → site_of m sites ≡ o → piece_of (least m) (site_open site z) m (site_of m joins) ≡ piece_of (least m) z m (site_of m sites)
        piece m None is = absent_piece (site_open site z) m is ∙ sym (ap (piece_of (least m) z m) is ∙ piece_empty (least m) z m None (omega arith))
        piece m (Some y) is = ap (piece_of (least m) (site_open site z) m) (found_opened sites source site m y absent is)
            ∙ ap (λ c. cond (is_same_site m z.here.site) (above (least m) (queue_of y)) (chosen (has_number z.journal m (least m) (count_opened c)) (queue_of y))) (opened_in-other z.here.site site (count_of y) y.destinations off)
            ∙ sym (ap (piece_of (least m) z m) is)

    -- the one that joins
    joined_history : History schema sound decides first earlier family.extra joins new
    joined_history =
        record {
          history = h.history;
          came = λ table group key convergent. subst (λ (ts : List Rows). Came schema sound decides table group convergent (find_row (columns_of schema table) key (first table))
              (row_in schema sound decides table group convergent ts key) (inserts_in schema table key (calls_in h.history)) (parts_in table key group (calls_in h.history))) (sym new_tables) (h.came table group key convergent);
          same = subst (λ ps. IsReordered h.history (family.extra ++ ps)) (quiet_pieces schema sound decides sites sent facts (is_quiet_join sites source site may) from source there of_schema master earlier since
              ∙ sym (joined_same (λ (m : SiteName). is_master_site schema m ≡ true) (λ (m : SiteName). piece_of (least m) new m (site_of m joins)) (λ (m : SiteName). above (least m) (queue_in (site_of m sites))) (masters_of schema) (Are-masters schema) (λ m named. piece m named (site_of m sites) refl))) h.same;
          told = told_later_all h.history h.told;
        }
      where
        master : source.here.is_master ≡ true
        master = joins_from_master sites source site may

        h : History schema sound decides first earlier family.extra sites source
        h = family.each from source there master

        piece : (m : SiteName) → is_master_site schema m ≡ true → (o : Option SiteState) → site_of m sites ≡ o → piece_of (least m) new m (site_of m joins) ≡ above (least m) (queue_in (site_of m sites))
        piece m named None is = absent_piece new m is ∙ sym (ap (λ o. above (least m) (queue_in o)) is)
        piece m named (Some y) is = ap (piece_of (least m) new m) (found_opened sites source site m y absent is) ∙ by (is_same_site m new.here.site) refl ∙ sym (ap (λ o. above (least m) (queue_in o)) is)
          where
            by : (b : Bool) → is_same_site m new.here.site ≡ b → cond b (above (least m) (queue_of y)) (chosen (has_number new.journal m (least m) (count_for new.here.site (Some (site_open site y)))) (queue_of y)) ≡ above (least m) (queue_of y)
            by true same = refl
            by false other =
                let differ : m ≢ site = λ e. true≢false (sym (is_same_site-refl site) ∙ sym (ap (λ (k : SiteName). is_same_site k site) e) ∙ sym (ap (is_same_site m) new_name) ∙ other) in
                let count : count_for new.here.site (Some (site_open site y)) ≡ count_of y =
                ap (λ (s : SiteName). count_for s (Some (site_open site y))) new_name ∙ joined_count schema sound decides sites sent more site from source absent there may facts met_later of_schema m y named is differ in
                chosen-same (has_number new.journal m (least m) (count_for new.here.site (Some (site_open site y)))) (nat_lt (least m)) (queue_of y)
                (λ k one le. let within : nat_le k (count_for new.here.site (Some (site_open site y))) ≡ true = grind (arith, nat_tests, le, count) in rw within refl)

    pub joined_family : Family joins
    joined_family = record { extra = family.extra; each = λ n u found master. by n u master (was_joined sites source site n u found) }
      where
        by : (n : SiteName) (u : SiteState) → u.here.is_master ≡ true → WasJoined sites source site n u → History schema sound decides first earlier family.extra joins u
        by n _ master (Old z is) = opened_history n z is master
        by n _ master (New is) = joined_history

  -- ---- the beginning

  pub first_family : ((name : SiteName) (x : SiteState) (table : ℕ) → site_of name earlier ≡ Some x → x.here.is_master ≡ true → is_convergent schema table ≡ true → rows_of (tables_of x) table ≡ first table) → Family earlier
  first_family begins = record {
    extra = [];
    each = λ name x found master. record {
      history = [];
      came = λ table group key convergent.
          subst (λ (rows : Rows). Came schema sound decides table group convergent (find_row (columns_of schema table) key (first table)) (find_row (columns_of schema table) key rows) [] []) (sym (begins name x table found master convergent))
          (came_not schema sound decides table group convergent (find_row (columns_of schema table) key (first table)));
      same = reordered_as (sym (nothing x (masters_of schema)));
      told = tt;
    };
  }
    where
      nothing : (x : SiteState) (ns : List SiteName) → joined_by (λ (n : SiteName). piece_of (least n) x n (site_of n earlier)) ns ≡ []
      nothing x [] = refl
      nothing x (n ∷ ns) = rw (piece_empty (least n) x n (site_of n earlier) (omega arith)) (nothing x ns)
