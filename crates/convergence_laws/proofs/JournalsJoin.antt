-- After every journal a group's values are the join of the first ones and of all parts that were applied.
use Rattle.std.proofs.Common.{◌≡◌, ◌++◌, ℕ, List, [], ◌∷◌, true, Some, None, refl, sym, subst}
use Rattle.std.specs.Prelude.{Option}
use Rattle.std.specs.Option.{option_map}
use Rattle.rep_values.specs.declared.name.SiteName.{SiteName}
use Rattle.rep_schema.specs.declared.schema.Schema.{Schema}
use Rattle.rep_schema.specs.Tables.{Cells, Rows, columns_of, find_row, rows_of, AreTables}
use Rattle.rep_schema.specs.Groups.{group_columns_of, values_at}
use Rattle.schema_rules.specs.declared.forms.Form.{Form}
use Rattle.rep_calls.specs.declared.call.Part.{Part}
use Rattle.unique_resolve.proofs.Settlements.{AreCounters-first}
use Rattle.txn_effects.specs.Contents.{Content, IsContent}
use Rattle.txn_effects.specs.Convergent.{is_convergent}
use Rattle.rep_laws.specs.Commuting.{IsSound}
use Rattle.rep_laws.proofs.ContentAfter.{IsContent-content_after}
use Rattle.site_state.specs.declared.entry.Entry.{Entry}
use Rattle.site_state.specs.declared.entry.Entry.TheVariants.{Local, Done, Error, Executed, Dropped, Refreshed}
use Rattle.site_state.specs.Contents.{content_with, journal_content}
use Rattle.rep_laws.specs.GroupForms.{form_at}
use Rattle.convergence_laws.specs.Joins.{parts_in, inserts_in, calls_applied, applied_parts, applied_inserts, first_row, IsJoin, IsJoined}
use Rattle.convergence_laws.specs.Journals.{IsMade, AreMade}
use Rattle.convergence_laws.specs.Laws.{AreJoinedSince, JournalsJoin}
use Rattle.convergence_laws.proofs.Moves.{DecisionLaws}
use Rattle.convergence_laws.proofs.Winners.{moved_by, IsJoin-moved_by}
use Rattle.convergence_laws.proofs.RowsCome.{Came, came_not, came_on}
use Rattle.convergence_laws.proofs.CallsCome.{row_in, txn_comes}

module _ (schema : Schema) (sound : IsSound schema) where
  -- tables and counters stay such, entry by entry
  pub entry_keeps : (site : SiteName) (base : List Rows) (e : Entry) (content : Content) → IsContent schema content → IsMade schema site content e → IsContent schema (content_with schema site base e content)
  entry_keeps site base (Local number txn) content is made = IsContent-content_after schema sound site txn made.sound.fits content is
  entry_keeps site base (Done origin position onward txn) content is made = IsContent-content_after schema sound origin txn made.sound.fits content is
  entry_keeps site base (Error origin position call error txn) content is made = is
  entry_keeps site base (Executed origin position onward txn) content is made = IsContent-content_after schema sound origin txn made.sound.fits content is
  entry_keeps site base (Dropped origin position) content is made = is
  entry_keeps site base (Refreshed moment) content is made = absurd made

  pub journal_keeps : (site : SiteName) (base : List Rows) (journal : List Entry) → AreTables schema base → AreMade schema site base journal → IsContent schema (journal_content schema site base journal)
  journal_keeps site base [] are made = record { tables = are; counters = AreCounters-first schema }
  journal_keeps site base (e ∷ es) are made = entry_keeps site base e (journal_content schema site base es) (journal_keeps site base es are made.1) made.0

  module _ (decides : DecisionLaws) (table group : ℕ) (convergent : is_convergent schema table ≡ true) where
    abbrev rows : List Rows → Cells → Option Cells
    rows = row_in schema sound decides table group convergent

    abbrev Comes : Option Cells → Option Cells → List Cells → List Part → Type 0
    Comes = Came schema sound decides table group convergent

    entry_comes : (key : Cells) (site : SiteName) (base : List Rows) (e : Entry) (content : Content) → IsContent schema content → IsMade schema site content e
        → Comes (rows content.tables key) (rows (content_with schema site base e content).tables key) (inserts_in schema table key (calls_applied e)) (parts_in table key group (calls_applied e))
    entry_comes key site base (Local number txn) content is made = txn_comes schema sound decides table group convergent key txn content site made.effect is made.sound.fits made.sound.keeps made.gives
    entry_comes key site base (Done origin position onward txn) content is made = txn_comes schema sound decides table group convergent key txn content origin made.effect is made.sound.fits made.sound.keeps made.gives
    entry_comes key site base (Error origin position call error txn) content is made = came_not schema sound decides table group convergent (rows content.tables key)
    entry_comes key site base (Executed origin position onward txn) content is made = txn_comes schema sound decides table group convergent key txn content origin made.effect is made.sound.fits made.sound.keeps made.gives
    entry_comes key site base (Dropped origin position) content is made = came_not schema sound decides table group convergent (rows content.tables key)
    entry_comes key site base (Refreshed moment) content is made = absurd made

    -- a row after a journal, beside what the journal applied
    pub journal_comes : (key : Cells) (site : SiteName) (base : List Rows) (journal : List Entry) → AreTables schema base → AreMade schema site base journal
        → Comes (rows base key) (rows (journal_content schema site base journal).tables key) (applied_inserts schema table key journal) (applied_parts table key group journal)
    journal_comes key site base [] are made = came_not schema sound decides table group convergent (rows base key)
    journal_comes key site base (e ∷ es) are made =
        came_on schema sound decides table group convergent (rows base key) (rows (journal_content schema site base es).tables key) (rows (journal_content schema site base (e ∷ es)).tables key)
        (applied_inserts schema table key es) (inserts_in schema table key (calls_applied e)) (applied_parts table key group es) (parts_in table key group (calls_applied e))
        (journal_comes key site base es are made.1)
        (entry_comes key site base e (journal_content schema site base es) (journal_keeps site base es are made.1) made.0)

    -- and from a moment of the journal on
    pub since_comes : (key : Cells) (site : SiteName) (base : List Rows) (since older : List Entry) → AreTables schema base → AreMade schema site base (since ++ older)
        → Comes (rows (journal_content schema site base older).tables key) (rows (journal_content schema site base (since ++ older)).tables key) (applied_inserts schema table key since) (applied_parts table key group since)
    since_comes key site base [] older are made = came_not schema sound decides table group convergent (rows (journal_content schema site base older).tables key)
    since_comes key site base (e ∷ es) older are made =
        came_on schema sound decides table group convergent (rows (journal_content schema site base older).tables key) (rows (journal_content schema site base (es ++ older)).tables key)
        (rows (journal_content schema site base (e ∷ es ++ older)).tables key) (applied_inserts schema table key es) (inserts_in schema table key (calls_applied e)) (applied_parts table key group es)
        (parts_in table key group (calls_applied e)) (since_comes key site base es older are made.1)
        (entry_comes key site base e (journal_content schema site base (es ++ older)) (journal_keeps site base (es ++ older) are made.1) made.0)

    -- what came so is joined
    pub IsJoined-Came : (f : Form) → form_at schema table group ≡ Some f → (before after : Option Cells) (inserted : List Cells) (parts : List Part) → Comes before after inserted parts
        → IsJoined schema (group_columns_of schema table group) f (first_row before inserted) parts after
    IsJoined-Came f has before after inserted parts comes = go (first_row before inserted) after (comes.value f has) (λ e. (comes.none e).2)
      where
        places : List ℕ
        places = group_columns_of schema table group

        go : (first now : Option Cells) → option_map (values_at (group_columns_of schema table group)) now ≡ option_map (λ row. moved_by schema (group_columns_of schema table group) f (values_at (group_columns_of schema table group) row) parts) first
            → (now ≡ None → parts ≡ []) → IsJoined schema (group_columns_of schema table group) f first parts now
        go None None value none = none refl
        go None (Some row) value none = cc
        go (Some first) None value none = cc
        go (Some first) (Some row) value none =
            let is : values_at (group_columns_of schema table group) row ≡ moved_by schema (group_columns_of schema table group) f (values_at (group_columns_of schema table group) first) parts = cc in
            subst (IsJoin schema (group_columns_of schema table group) f (values_at (group_columns_of schema table group) first) parts) (sym is)
            (IsJoin-moved_by schema (group_columns_of schema table group) f (values_at (group_columns_of schema table group) first) parts)

pub journals_join : DecisionLaws → JournalsJoin
journals_join decides schema site base journal sound are made table group key f convergent has =
    IsJoined-Came schema sound decides table group convergent f has (rows schema sound decides table group convergent base key)
    (rows schema sound decides table group convergent (journal_content schema site base journal).tables key) (applied_inserts schema table key journal) (applied_parts table key group journal)
    (journal_comes schema sound decides table group convergent key site base journal are made)

pub journals_join_since : DecisionLaws → (schema : Schema) (site : SiteName) (base : List Rows) (journal : List Entry) → IsSound schema → AreTables schema base → AreMade schema site base journal → AreJoinedSince schema site base journal
journals_join_since decides schema site base journal sound are made since older is table group key f convergent has =
    subst (λ (j : List Entry). IsJoined schema (group_columns_of schema table group) f
    (first_row (find_row (columns_of schema table) key (rows_of (journal_content schema site base older).tables table)) (applied_inserts schema table key since)) (applied_parts table key group since)
    (find_row (columns_of schema table) key (rows_of (journal_content schema site base j).tables table))) (sym is)
    (IsJoined-Came schema sound decides table group convergent f has (rows schema sound decides table group convergent (journal_content schema site base older).tables key)
    (rows schema sound decides table group convergent (journal_content schema site base (since ++ older)).tables key) (applied_inserts schema table key since) (applied_parts table key group since)
    (since_comes schema sound decides table group convergent key site base since older are (subst (AreMade schema site base) is made)))
