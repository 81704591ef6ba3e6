-- What a transaction inserts into a convergent table isn't there where it is applied.
use Rattle.std.proofs.Common.{◌≡◌, ◌≢◌, ℕ, ◌+◌, ◌≤◌, true, false, List, [], ◌∷◌, ◌++◌, Some, None, Err, refl, sym, ap, ◌∙◌, subst, inl, inr, arith}
use Rattle.std.specs.Prelude.{Option}
use Rattle.std.specs.List.{AllByRecursion}
use Rattle.rep_values.specs.declared.name.SiteName.{SiteName}
use Rattle.rep_values.specs.declared.refusal.ApplyError.{ApplyError}
use Rattle.rep_values.specs.declared.refusal.ApplyError.TheVariants as error
use Rattle.rep_schema.specs.declared.schema.Schema.{Schema}
use Rattle.rep_schema.specs.Tables.{Cells, Rows, columns_of, key_of, find_row, rows_of}
use Rattle.rep_schema.specs.Putting.{after_changes}
use Rattle.rep_calls.specs.declared.call.Call.{Call}
use Rattle.rep_calls.specs.declared.call.Call.TheVariants.{Insert, Update, Delete}
use Rattle.rep_calls.specs.declared.call.Txn.{Txn}
use Rattle.conflict_detect.specs.Fits.{table_of}
use Rattle.txn_effects.specs.Calls.{row_named}
use Rattle.txn_effects.specs.Transactions.{Failure}
use Rattle.txn_effects.specs.Contents.{effect_on}
use Rattle.txn_effects.specs.Convergent.{is_convergent}
use Rattle.local_txn.specs.Laws.{StampsOfABlockRise}
use Rattle.site_state.specs.State.{SiteState, opened_of}
use Rattle.site_state.specs.Contents.{content_of, tables_of, journal_content}
use Rattle.site_state.specs.Streams.{queue_of, stream_to}
use Rattle.site_events.specs.Cluster.{Cluster, site_of}
use Rattle.site_events.specs.Events.{Event}
use Rattle.event_laws.specs.Fitting.{IsFitStart}
use Rattle.event_laws.specs.Starts.{IsNewSite}
use Rattle.event_laws.specs.Waiting.{SitesLinkAsDeclared}
use Rattle.event_laws.proofs.Sites.{found_all}
use Rattle.convergence_laws.specs.Faults.{Tells, is_insert, ChangesLatest}
use Rattle.convergence_laws.specs.Journals.{IsSoundTxn}
use Rattle.convergence_laws.specs.Laws.{BlocksKeepForms}
use Rattle.convergence_laws.proofs.Moves.{DecisionLaws}
use Rattle.convergence_laws.proofs.CallsCome.{is_row-same, calls_come}
use Rattle.convergence_laws.proofs.Faults.{convergent_calls_fail_so}
use Rattle.error_cause_laws.specs.Excuses.{is_on_convergent, is_row_tie_or_range, NoKeyIsTaken}
use Rattle.event_laws.specs.Beginning.{MastersShareKeys}
use Rattle.error_cause_laws.specs.Laws.{KeysAreNeverTaken}
use Rattle.error_cause_laws.proofs.Failing.{FailsBehind, fails_behind, call_found}
use Rattle.error_cause_laws.proofs.OneTimeWrites.{OneTimeWrite, writes_in, writes_in-append, signs_of, position_few, stream_few}
use Rattle.error_cause_laws.proofs.WritingOnce.{IsDecided, DecidedBy, sent_has_passed}
use Rattle.error_cause_laws.proofs.OwnChanges.{block_changes_own}
use Rattle.error_cause_laws.proofs.Unmixed.{IsUnmixed, own_unmixed, onward_unmixed, all_convergent}
use Rattle.error_cause_laws.proofs.InsertWrites.{insert_sign, inserts_counted, there_came}
use Rattle.error_cause_laws.proofs.Moving.{ComesFrom}
use Rattle.error_cause_laws.proofs.WritesStep.{IsWell, sent_holds}
use Rattle.error_cause_laws.proofs.Running.{sites_after, well_after, links_after, signed_after, queued_after, failures_after}

-- what holds of all holds of one in the midst
pub middle_holds : {X : Type 0} (P : X → Type 0) (done : List X) (x : X) (rest : List X) → AllByRecursion P (done ++ x ∷ rest) → P x
middle_holds P [] x rest all = all.0
middle_holds P (y ∷ done) x rest all = middle_holds P done x rest all.1

module _ (schema : Schema) (decides : DecisionLaws) (rises : StampsOfABlockRise) (blocks : BlocksKeepForms) (start : Cluster) (is : IsFitStart schema start) (meshed : SitesLinkAsDeclared schema start.sites) where
  -- ---- each transaction that is sent is unmixed

  abbrev Sites : List Event → List SiteState
  Sites events = sites_after schema decides rises blocks start is meshed events

  all_unmixed : (events : List Event) (site : SiteName) (x : SiteState) → site_of site (Sites events) ≡ Some x → AllByRecursion (IsUnmixed schema) (queue_of x)
  all_unmixed events site x found =
      queued_after schema decides rises blocks start is meshed (λ x. Unit {0}) (IsUnmixed schema) (λ x y same of. tt)
      (λ x statements block well of makes.
      let own = block_changes_own schema x.here x.stamps statements (tables_of x) block makes in
      own_unmixed schema x.here own.0 block.changes own.1)
      (λ events x o position txn effect comes of content sound gives. onward_unmixed schema o.here.site txn (content_of x) effect (of tt) gives)
      events site x found tt

  pub unmixed_sent : (events : List Event) (x o : SiteState) (position : ℕ) (txn : Txn) → ComesFrom (Sites events) x o position txn → IsUnmixed schema txn
  unmixed_sent events x o position txn comes = sent_holds (IsUnmixed schema) x.here.site o position txn (all_unmixed events o.here.site o comes.there) comes.sent

  -- ---- a transaction that fails at a master

  module _ (events : List Event) (x o : SiteState) (position : ℕ) (txn : Txn) (failure : Failure) (x_found : site_of x.here.site (Sites events) ≡ Some x) (master : x.here.is_master ≡ true)
      (comes : ComesFrom (Sites events) x o position txn) (gives : effect_on schema o.here.site txn (content_of x) ≡ Err failure) where
    well : IsWell schema x
    well = well_after schema decides rises blocks start is meshed events x.here.site x x_found

    o_well : IsWell schema o
    o_well = well_after schema decides rises blocks start is meshed events o.here.site o comes.there

    pub txn_sound : IsSoundTxn schema txn
    txn_sound = sent_holds (IsSoundTxn schema) x.here.site o position txn o_well.queued comes.sent

    abbrev pub Behind : Type 0
    Behind = FailsBehind schema o.here.site 1 txn.calls (tables_of x) (content_of x).numbers failure

    pub behind : Behind
    behind = fails_behind schema is.sound o.here.site 1 txn.calls (tables_of x) (content_of x).numbers failure well.content.tables well.content.counters txn_sound.fits.calls txn_sound.keeps gives

    pub fails_convergent : is_on_convergent schema txn ≡ true → is_convergent schema (table_of behind.call) ≡ true
    fails_convergent on = middle_holds (λ (call : Call). is_convergent schema (table_of call) ≡ true) behind.done behind.call behind.rest
        (subst (AllByRecursion (λ (call : Call). is_convergent schema (table_of call) ≡ true)) behind.whole (all_convergent schema txn (unmixed_sent events x o position txn comes) on))

    pub told : is_convergent schema (table_of behind.call) ≡ true → Tells schema behind.call (row_named schema (after_changes schema behind.effect.changes (tables_of x)) behind.call) failure.error
    told convergent = convergent_calls_fail_so decides schema (after_changes schema behind.effect.changes (tables_of x)) behind.effect.numbers o.here.site behind.call failure.error is.sound behind.are behind.fits behind.keeps convergent behind.fails

    -- a sign that what fails would make once more
    module _ (sign : OneTimeWrite schema) (begins : (site : SiteName) (x : SiteState) → site_of site start.sites ≡ Some x → x.here.is_master ≡ true → sign.Present x.base → IsDecided schema sign start.sites) where
      -- the transaction makes it once, and the master hasn't it
      pub made_once : signs_of sign.count txn ≤ 1
      made_once =
          let signed = signed_after schema decides rises blocks start is meshed sign begins events in
          let few = signed.once o.here.site o comes.there in
          omega (arith, few, position_few sign.count position (stream_to x.here.site o) txn comes.sent, stream_few sign.count (opened_of x.here.site o) (queue_of o))

      pub not_there : 1 ≤ signs_of sign.count txn → sign.Present (tables_of x) → ⊥
      not_there makes has = comes.before
          (sent_has_passed schema sign (Sites events) (links_after schema decides rises blocks start is meshed events) (signed_after schema decides rises blocks start is meshed sign begins events) x o position txn x_found comes.there master comes.sent makes has)

      pub made_behind : signs_of sign.count txn ≡ writes_in sign.count behind.done + (sign.count behind.call + writes_in sign.count behind.rest)
      made_behind = ap (writes_in sign.count) behind.whole ∙ writes_in-append sign.count behind.done (behind.call ∷ behind.rest)

    module _ (shared : MastersShareKeys schema start.sites) where
      -- the row of an insert isn't there
      module _ (table : ℕ) (row : Cells) (inserts : behind.call ≡ Insert table row) (convergent : is_convergent schema table ≡ true) where
        abbrev key : Cells
        key = key_of (columns_of schema table) row

        abbrev sign : OneTimeWrite schema
        sign = insert_sign schema is.sound decides blocks table convergent key

        new_base : (site : SiteName) (y : SiteState) → site_of site start.sites ≡ Some y → tables_of y ≡ y.base
        new_base site y found = ap (λ es. (journal_content y.schema y.here.site y.base es).tables) (found_all (IsNewSite schema) site start.sites y is.start.sites found).journal

        begins : (site : SiteName) (y : SiteState) → site_of site start.sites ≡ Some y → y.here.is_master ≡ true → sign.Present y.base → IsDecided schema sign start.sites
        begins site y found on there = go (site_of sign.owner start.sites) refl
          where
            has : (other : SiteName) (z : SiteState) → site_of other start.sites ≡ Some z → z.here.is_master ≡ true → sign.Present (tables_of z)
            has other z z_found z_on none = there (shared site other y z table key found z_found on z_on convergent
                (ap (λ (ts : List Rows). find_row (columns_of schema table) key (rows_of ts table)) (sym (new_base other z z_found)) ∙ none))

            go : (owner : Option SiteState) → site_of sign.owner start.sites ≡ owner → DecidedBy schema sign start.sites owner
            go None absent = has
            go (Some z) at = has sign.owner z at

        counted : sign.count behind.call ≡ 1
        counted = ap sign.count inserts ∙ (rw (is_row-same table key table key refl refl) refl)

        pub insert_is_new : find_row (columns_of schema table) key (rows_of (after_changes schema behind.effect.changes (tables_of x)) table) ≡ None
        insert_is_new = none (find_row (columns_of schema table) key (rows_of (after_changes schema behind.effect.changes (tables_of x)) table)) refl
          where
            total : signs_of sign.count txn ≡ writes_in sign.count behind.done + (sign.count behind.call + writes_in sign.count behind.rest)
            total = made_behind sign begins

            once : signs_of sign.count txn ≤ 1
            once = made_once sign begins

            came : find_row (columns_of schema table) key (rows_of (after_changes schema behind.effect.changes (tables_of x)) table) ≢ None → ⊥
            came there = elim (there_came schema is.sound decides blocks table convergent key (find_row (columns_of schema table) key (rows_of (tables_of x) table))
                (find_row (columns_of schema table) key (rows_of (after_changes schema behind.effect.changes (tables_of x)) table)) behind.done
                (calls_come schema is.sound decides table 0 convergent key 1 behind.done (tables_of x) (content_of x).numbers o.here.site behind.effect well.content.tables well.content.counters behind.done_fit behind.done_keep behind.succeeds) there) [
                  | inl was ↦ not_there sign begins (omega (arith, total, counted)) was
                  | inr inserted ↦ let done = inserts_counted schema is.sound decides blocks table convergent key behind.done in omega (arith, total, counted, once, inserted, done)
                ]

            none : (found : Option Cells) → find_row (columns_of schema table) key (rows_of (after_changes schema behind.effect.changes (tables_of x)) table) ≡ found → found ≡ None
            none None at = refl
            none (Some r) at = absurd (came (λ empty. cc (sym at ∙ empty)))

      never_taken : is_convergent schema (table_of behind.call) ≡ true → is_insert behind.call ≡ true → (row : Cells) → row_named schema (after_changes schema behind.effect.changes (tables_of x)) behind.call ≡ Some row → ⊥
      never_taken convergent inserts row there = go behind.call refl
        where
          go : (call : Call) → behind.call ≡ call → ⊥
          go (Insert table new) at =
              let on : is_convergent schema table ≡ true = ap (λ (c : Call). is_convergent schema (table_of c)) (sym at) ∙ convergent in
              let none = insert_is_new table new at on in
              let wrong : None ≡ Some row = sym none ∙ ap (row_named schema (after_changes schema behind.effect.changes (tables_of x))) (sym at) ∙ there in
              cc
          go (Update table key parts) at = let wrong : false ≡ true = ap is_insert (sym at) ∙ inserts in cc
          go (Delete table old) at = let wrong : false ≡ true = ap is_insert (sym at) ∙ inserts in cc

      pub no_key_is_taken : NoKeyIsTaken schema x.journal failure.call failure.error txn
      no_key_is_taken on = record {
        kind = go failure.error (told (fails_convergent on));
        tie = λ group why call found.
            subst (ChangesLatest schema) (call_found schema o.here.site txn.calls (tables_of x) (content_of x).numbers failure call behind found)
            (subst (Tells schema behind.call (row_named schema (after_changes schema behind.effect.changes (tables_of x)) behind.call)) why (told (fails_convergent on)));
      }
        where
          go : (why : ApplyError) → Tells schema behind.call (row_named schema (after_changes schema behind.effect.changes (tables_of x)) behind.call) why → is_row_tie_or_range why ≡ true
          go error.NoRow tells = refl
          go (error.UpdateConflict group) tells = refl
          go error.DeleteConflict tells = absurd tells
          go (error.UniqueConflict constraint) tells = absurd (never_taken (fails_convergent on) tells.0 tells.1.0 tells.1.1)
          go error.ValueRange tells = refl
          go (error.CheckFailed check) tells = absurd tells

pub keys_are_never_taken : DecisionLaws → StampsOfABlockRise → BlocksKeepForms → KeysAreNeverTaken
keys_are_never_taken decides rises blocks schema start events is meshed shared site x found master =
    failures_after schema decides rises blocks start is meshed (λ base. NoKeyIsTaken schema)
    (λ events x o position txn failure x_found on comes gives. no_key_is_taken schema decides rises blocks start is meshed events x o position txn failure x_found on comes gives shared)
    events site x found master
