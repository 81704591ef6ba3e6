-- What declared sites applied is told, and so are the rows that masters begin with, but for those that were there before any event.
use Rattle.std.proofs.Common.{◌≡◌, ℕ, true, List, [], ◌∷◌, map, Some, None, pos, refl, sym, ap, ◌∙◌, subst, inl, inr}
use Rattle.std.specs.Prelude.{◌⊎◌, Option, not}
use Rattle.std.specs.List.{list_any, list_all}
use Rattle.std.specs.Ordering.{is_gt}
use Rattle.std.specs.Cmp.{first_so}
use mathlib.Core.Bool.{true≢false}
use Rattle.std.proofs.lemmas.List.{map-append}
use Rattle.rep_values.specs.declared.name.SiteName.{SiteName}
use Rattle.rep_values.specs.declared.value.Value.TheVariants.{Num}
use Rattle.rep_schema.specs.declared.schema.Schema.{Schema}
use Rattle.rep_schema.specs.Tables.{Cells, Rows, columns_of, find_row, rows_of}
use Rattle.rep_schema.specs.Groups.{group_columns_of, values_at, are_same}
use Rattle.schema_rules.specs.declared.forms.Form.TheVariants as form
use Rattle.rep_calls.specs.declared.call.Call.{Call}
use Rattle.rep_calls.specs.declared.call.Part.{Part}
use Rattle.rep_calls.specs.declared.call.Txn.{Txn}
use Rattle.rep_laws.specs.Commuting.{IsSound}
use Rattle.packet_code.specs.declared.packet.Packet.{Packet}
use Rattle.txn_effects.specs.declared.local.Here.{Here}
use Rattle.txn_effects.specs.Convergent.{is_convergent}
use Rattle.site_state.specs.declared.entry.Entry.{Entry}
use Rattle.site_state.specs.declared.entry.Entry.TheVariants.{Local, Done, Error, Executed, Dropped, Refreshed}
use Rattle.site_state.specs.State.{SiteState}
use Rattle.site_state.specs.Contents.{tables_of, txn_of}
use Rattle.site_state.specs.Steps.{onward_number}
use Rattle.site_events.specs.Cluster.{site_of}
use Rattle.site_events.specs.Joins.{copied, may_join}
use Rattle.event_laws.proofs.Sites.{found_name, found_changed}
use Rattle.event_laws.proofs.NewSites.{copied_is_new}
use Rattle.event_laws.proofs.DeclaredSites.{joins_from_master}
use Rattle.rep_laws.specs.GroupForms.{form_at, value_of, wins}
use Rattle.convergence_laws.specs.Joins.{parts_for, parts_in, inserts_for, inserts_in, calls_applied, applied_parts, applied_inserts, first_row, candidates_of, IsJoined}
use Rattle.convergence_laws.specs.Collections.{Among}
use Rattle.convergence_laws.specs.Laws.{AreJoined}
use Rattle.convergence_laws.specs.Agreement.{all_applied}
use Rattle.convergence_laws.proofs.Moves.{DecisionLaws}
use Rattle.convergence_laws.proofs.SameRows.{applied_parts-all, applied_inserts-all}
use Rattle.convergence_laws.proofs.AnyOrder.{among_any}
use Rattle.convergence_laws.specs.Pairs.{made_by, made_in}
use Rattle.convergence_laws.proofs.Counting.{among_left, among_right, among_either, among_map}
use Rattle.convergence_laws.proofs.Turns.{Turn, Same, Own, Did, Left, Renewed, Cause, Now, Late, IsLeft, Becomes, Stays, Turns, Joins}
use Rattle.convergence_laws.proofs.SitesAt.{Each, turn_frame, turns_here, at_each, joined_each}
use Rattle.event_laws.proofs.JoinedSites.{copied_base}
use Rattle.convergence_laws.proofs.Told.{IsOwnValue, AreTold, told_append, own_later, told_later, HaveMore, becomes_more, QueueIsTold, Known, own_told, done_told}
use Rattle.convergence_laws.proofs.Facts.{is_named, Facts, declared_master}
use Rattle.convergence_laws.proofs.Ties.{master_named}

-- ---- what calls make

-- a new value of a part is one that its call makes
pub Among-parts_in : (schema : Schema) (table : ℕ) (key : Cells) (group : ℕ) (calls : List Call) (v : Cells) → Among v (map (λ (part : Part). part.new) (parts_in table key group calls)) → Among v (made_in schema table key group calls)
Among-parts_in schema table key group [] v among = absurd among
Among-parts_in schema table key group (c ∷ cs) v among = elim (among_either v (map (λ (part : Part). part.new) (parts_for table key group c)) (map (λ (part : Part). part.new) (parts_in table key group cs))
    (subst (Among v) (map-append (λ (part : Part). part.new) (parts_for table key group c) (parts_in table key group cs)) among)) [
      | inl here ↦ among_left v (made_by schema table key group c) (made_in schema table key group cs)
          (among_right v (map (values_at (group_columns_of schema table group)) (inserts_for schema table key c)) (map (λ (part : Part). part.new) (parts_for table key group c)) here)
      | inr later ↦ among_right v (made_by schema table key group c) (made_in schema table key group cs) (Among-parts_in schema table key group cs v later)
    ]

-- and so are the values of a row that one inserts
Among-inserts_in : (schema : Schema) (table : ℕ) (key : Cells) (group : ℕ) (calls : List Call) (row : Cells) → Among row (inserts_in schema table key calls)
    → Among (values_at (group_columns_of schema table group) row) (made_in schema table key group calls)
Among-inserts_in schema table key group [] row among = absurd among
Among-inserts_in schema table key group (c ∷ cs) row among = elim (among_either row (inserts_for schema table key c) (inserts_in schema table key cs) among) [
  | inl here ↦ among_left (values_at (group_columns_of schema table group) row) (made_by schema table key group c) (made_in schema table key group cs)
      (among_left (values_at (group_columns_of schema table group) row) (map (values_at (group_columns_of schema table group)) (inserts_for schema table key c)) (map (λ (part : Part). part.new) (parts_for table key group c))
      (among_map (values_at (group_columns_of schema table group)) row (inserts_for schema table key c) here))
  | inr later ↦ among_right (values_at (group_columns_of schema table group) row) (made_by schema table key group c) (made_in schema table key group cs) (Among-inserts_in schema table key group cs row later)
]

-- ---- what an entry applies

calls_applied-did : (x : SiteState) (origin : SiteName) (position number : ℕ) (txn : Txn) (e : Entry) → Cause x origin position number txn e → txn.calls ≡ calls_applied e
calls_applied-did x origin position number txn _ (Now is) = refl
calls_applied-did x origin position number txn _ (Late e at is) = refl

calls_applied-left : (e : Entry) → IsLeft e → [] ≡ calls_applied e
calls_applied-left (Local number txn) left = absurd left
calls_applied-left (Done origin position onward txn) left = absurd left
calls_applied-left (Error origin position call error txn) left = refl
calls_applied-left (Executed origin position onward txn) left = absurd left
calls_applied-left (Dropped origin position) left = refl
calls_applied-left (Refreshed moment) left = absurd left

module _ (schema : Schema) where
  -- ---- what is known of a site

  abbrev AreAllTold : List SiteState → List Call → Type 0
  AreAllTold sites calls = AreTold (is_named schema) schema sites calls

  none_told : (sites : List SiteState) → AreAllTold sites []
  none_told sites table group stamp own key v convergent has among = absurd among

  -- latest values have stamp 0, or a declared site made them
  abbrev pub IsZeroOrOwn : List SiteState → ℕ → Cells → ℕ → ℕ → Cells → Type 0
  IsZeroOrOwn sites table key group stamp v = (value_of (group_columns_of schema table group) v stamp ≡ Some (Num (pos 0))) ⊎ IsOwnValue (is_named schema) schema sites table key group v

  -- so it is with those of each row of some tables
  abbrev pub RowsAreZeroOrOwn : List SiteState → List Rows → Type 0
  RowsAreZeroOrOwn sites tables = (table group stamp own : ℕ) (key row : Cells) → is_convergent schema table ≡ true → form_at schema table group ≡ Some (form.Latest stamp own)
      → find_row (columns_of schema table) key (rows_of tables table) ≡ Some row → IsZeroOrOwn sites table key group stamp (values_at (group_columns_of schema table group) row)

  -- all that a site applied is told, if it is declared; and if it is a master its base rows have stamp 0 or are own values
  pub record IsRooted (sites : List SiteState) (x : SiteState) : Type 0 where
    pub applied : is_named schema x.here.site ≡ true → AreTold (is_named schema) schema sites (all_applied x.journal)
    pub base : x.here.is_master ≡ true → RowsAreZeroOrOwn sites x.base

  -- ---- as more is made

  zero_or_own_later : (sites others : List SiteState) (table : ℕ) (key : Cells) (group stamp : ℕ) (v : Cells) → HaveMore sites others → IsZeroOrOwn sites table key group stamp v → IsZeroOrOwn others table key group stamp v
  zero_or_own_later sites others table key group stamp v later (inl zero) = inl zero
  zero_or_own_later sites others table key group stamp v later (inr o) = inr (own_later (is_named schema) schema sites others table key group v later o)

  rooted_later : (sites others : List SiteState) (x : SiteState) → HaveMore sites others → IsRooted sites x → IsRooted others x
  rooted_later sites others x later k = record {
    applied = λ passes. told_later (is_named schema) schema sites others (all_applied x.journal) later (k.applied passes);
    base = λ master table group stamp own key row convergent has at.
        zero_or_own_later sites others table key group stamp (values_at (group_columns_of schema table group) row) later (k.base master table group stamp own key row convergent has at);
  }

  -- ---- the rows of a master

  module _ (sites : List SiteState) (x : SiteState) (passes : is_named schema x.here.site ≡ true) (master : x.here.is_master ≡ true) (k : IsRooted sites x) (table group stamp own : ℕ) (key : Cells)
      (convergent : is_convergent schema table ≡ true) (has : form_at schema table group ≡ Some (form.Latest stamp own)) where
    abbrev places : List ℕ
    places = group_columns_of schema table group

    abbrev base_row : Option Cells
    base_row = find_row (columns_of schema table) key (rows_of x.base table)

    made_own : (v : Cells) → Among v (made_in schema table key group (all_applied x.journal)) → IsOwnValue (is_named schema) schema sites table key group v
    made_own v among = k.applied passes table group stamp own key v convergent has among

    -- its first row's values, be it a base row or an inserted one
    pub first_is_known : (first : Cells) → first_row base_row (applied_inserts schema table key x.journal) ≡ Some first → IsZeroOrOwn sites table key group stamp (values_at places first)
    first_is_known first begins = go base_row refl (applied_inserts schema table key x.journal) (applied_inserts-all schema table key x.journal) begins
      where
        go : (b : Option Cells) → base_row ≡ b → (inserts : List Cells) → inserts ≡ inserts_in schema table key (all_applied x.journal) → first_row b inserts ≡ Some first → IsZeroOrOwn sites table key group stamp (values_at places first)
        go (Some row) at inserts all is =
            let same : row ≡ first = cc in
            k.base master table group stamp own key first convergent has (at ∙ ap Some same)
        go None at [] all is = cc
        go None at (row ∷ rows) all is =
            let same : row ≡ first = cc in
            inr (made_own (values_at places first) (Among-inserts_in schema table key group (all_applied x.journal) first (subst (Among first) all (inl same))))

    -- a part's new values
    pub part_is_own : (v : Cells) → Among v (map (λ (part : Part). part.new) (applied_parts table key group x.journal)) → IsOwnValue (is_named schema) schema sites table key group v
    part_is_own v among =
        made_own v (Among-parts_in schema table key group (all_applied x.journal) v (subst (λ (parts : List Part). Among v (map (λ (part : Part). part.new) parts)) (applied_parts-all table key group x.journal) among))

    candidate_is_known : (first v : Cells) → first_row base_row (applied_inserts schema table key x.journal) ≡ Some first → Among v (candidates_of (values_at places first) (applied_parts table key group x.journal))
        → IsZeroOrOwn sites table key group stamp v
    candidate_is_known first v begins (inl same) = subst (IsZeroOrOwn sites table key group stamp) same (first_is_known first begins)
    candidate_is_known first v begins (inr later) = inr (part_is_own v later)

    -- and those of its row now, which are among them
    now_is_known : AreJoined schema x.base x.journal (tables_of x) → (row : Cells) → find_row (columns_of schema table) key (rows_of (tables_of x) table) ≡ Some row → IsZeroOrOwn sites table key group stamp (values_at places row)
    now_is_known joined row at = go (first_row base_row (applied_inserts schema table key x.journal)) refl
        (subst (IsJoined schema places (form.Latest stamp own) (first_row base_row (applied_inserts schema table key x.journal)) (applied_parts table key group x.journal)) at (joined table group key (form.Latest stamp own) convergent has))
      where
        go : (o : Option Cells) → first_row base_row (applied_inserts schema table key x.journal) ≡ o → IsJoined schema places (form.Latest stamp own) o (applied_parts table key group x.journal) (Some row)
            → IsZeroOrOwn sites table key group stamp (values_at places row)
        go None begins join = absurd join
        go (Some first) begins join =
            let candidates : List Cells = candidates_of (values_at places first) (applied_parts table key group x.journal) in
            candidate_is_known first (values_at places row) begins (among_any (values_at places row) candidates
            (first_so (list_any (λ values. are_same values (values_at places row)) candidates) (list_all (λ values. not (is_gt (wins schema places (form.Latest stamp own) values (values_at places row)))) candidates) join))

  -- ---- one turn

  module _ (sound : IsSound schema) (decides : DecisionLaws) where
    module _ (sites others : List SiteState) (name : SiteName) (x y : SiteState) (known : Known (is_named schema) schema sound decides sites others name x y)
        (all : Each (λ u. is_named schema u.here.site ≡ true → QueueIsTold (is_named schema) schema sound decides sites u) sites) (turn : Turn x y) (k : IsRooted others x) where
      same_here : y.here ≡ x.here
      same_here = (turn_frame x y turn).here

      turn_applied : is_named schema y.here.site ≡ true → AreAllTold others (all_applied y.journal)
      turn_applied passes = go turn
        where
          was : is_named schema x.here.site ≡ true
          was = ap (λ (h : Here). is_named schema h.site) (sym same_here) ∙ passes

          -- behind one entry more
          one : (e : Entry) (calls : List Call) → calls ≡ calls_applied e → y.journal ≡ e ∷ x.journal → AreAllTold others calls → AreAllTold others (all_applied y.journal)
          one e calls same journal told = subst (λ (es : List Entry). AreAllTold others (all_applied es)) (sym journal)
              (told_append (is_named schema) schema others (all_applied x.journal) (calls_applied e) (k.applied was) (subst (λ (cs : List Call). AreAllTold others cs) same told))

          go : Turn x y → AreAllTold others (all_applied y.journal)
          go (Same f base journal last) = subst (λ (es : List Entry). AreAllTold others (all_applied es)) (sym journal) (k.applied was)
          go (Own f base number statements block is journal last) =
              let txn : Txn = txn_of x.schema block.changes in
              one (Local number txn) txn.calls refl journal
              (own_told (is_named schema) schema sound decides sites others name x y known (ap (is_named schema) (sym (found_name name sites x known.found)) ∙ was) number txn f.here journal)
          go (Did f base e origin position txn effect cause gives journal last) =
              one e txn.calls (calls_applied-did x origin position (onward_number origin effect.changes x) txn e cause) journal
              (done_told (is_named schema) schema sound decides sites others name x y known all e origin position (onward_number origin effect.changes x) txn cause)
          go (Left f base e left follows journal last) = one e [] (calls_applied-left e left) journal (none_told others)
          go (Renewed f plain moment journal last) = one (Refreshed moment) [] refl journal (none_told others)

      turn_base : y.here.is_master ≡ true → RowsAreZeroOrOwn others y.base
      turn_base master = go turn
        where
          was : x.here.is_master ≡ true
          was = ap (λ (h : Here). h.is_master) (sym same_here) ∙ master

          same : y.base ≡ x.base → RowsAreZeroOrOwn others y.base
          same base = subst (λ (tables : List Rows). RowsAreZeroOrOwn others tables) (sym base) (k.base was)

          go : Turn x y → RowsAreZeroOrOwn others y.base
          go (Same f base journal last) = same base
          go (Own f base number statements block is journal last) = same base
          go (Did f base e origin position txn effect cause gives journal last) = same base
          go (Left f base e left follows journal last) = same base
          go (Renewed f plain moment journal last) = absurd (true≢false (sym was ∙ plain))

      turn_rooted : IsRooted others y
      turn_rooted = record { applied = turn_applied; base = turn_base }

    -- ---- one event

    -- the one that joins begins with the rows of another master
    joined_rooted : (sites others : List SiteState) (sent : List Packet) (site from : SiteName) (source : SiteState) → site_of from sites ≡ Some source → may_join sites source site ≡ true → Facts schema sound decides sites sent
        → AreJoined schema source.base source.journal (tables_of source) → HaveMore sites others → IsRooted sites source → IsRooted others (copied sites source site)
    joined_rooted sites others sent site from source there may facts joined later k = record {
      applied = λ passes. subst (λ (es : List Entry). AreAllTold others (all_applied es)) (sym (copied_is_new sites source site).journal) (none_told others);
      base = λ on table group stamp own key row convergent has at.
          zero_or_own_later sites others table key group stamp (values_at (group_columns_of schema table group) row) later
          (now_is_known sites source named master k table group stamp own key convergent has joined row
          (ap (λ (tables : List Rows). find_row (columns_of schema table) key (rows_of tables table)) (sym (copied_base sites source site)) ∙ at));
    }
      where
        master : source.here.is_master ≡ true
        master = joins_from_master sites source site may

        named : is_named schema source.here.site ≡ true
        named = ap (is_named schema) (found_name from sites source there) ∙ master_named from schema.sites (sym (declared_master schema sound decides sites sent facts from source there) ∙ master)

    pub becomes_rooted : (sites others : List SiteState) (sent : List Packet) → Becomes sites others → Facts schema sound decides sites sent
        → ((name : SiteName) (x y : SiteState) → site_of name sites ≡ Some x → site_of name others ≡ Some y → Known (is_named schema) schema sound decides sites others name x y)
        → ((name : SiteName) (x : SiteState) → site_of name sites ≡ Some x → x.here.is_master ≡ true → AreJoined schema x.base x.journal (tables_of x))
        → Each (IsRooted sites) sites → Each (IsRooted others) others
    becomes_rooted sites _ sent Stays facts knows joined all = all
    becomes_rooted sites others sent (Turns name change turns) facts knows joined all =
        at_each (IsRooted others) name change sites (turns_here change turns)
        (λ x found k. turn_rooted sites others name x (change x) (knows name x (change x) found (found_changed name change sites x (turns_here change turns) found)) facts.told (turns x) k)
        (λ n x found. rooted_later sites others x (becomes_more sites others (Turns name change turns)) (all n x found))
    becomes_rooted sites others sent (Joins site from source absent there may) facts knows joined all =
        joined_each (IsRooted others) sites source site (λ x k. record { applied = k.applied; base = k.base })
        (joined_rooted sites others sent site from source there may facts (joined from source there (joins_from_master sites source site may)) (becomes_more sites others (Joins site from source absent there may)) (all from source there))
        (λ n x found. rooted_later sites others x (becomes_more sites others (Joins site from source absent there may)) (all n x found))
