-- The sign of a row of a convergent table: it is there, and its insert makes it.
use Rattle.std.proofs.Common.{◌≡◌, ◌≢◌, ℕ, zero, suc, ◌+◌, ◌≤◌, Bool, true, false, cond, List, [], ◌∷◌, length, map, Some, None, Ok, refl, sym, ap, ◌∙◌, subst, inl, inr, arith, length-append}
use mathlib.Core.Bool.{true≢false}
use Rattle.std.specs.Prelude.{Option, ◌⊎◌, ◌&&◌, ◌==◌}
use Rattle.std.proofs.lemmas.Bool.{eqb-true}
use Rattle.rep_values.specs.declared.name.SiteName.{SiteName}
use Rattle.rep_values.specs.declared.value.Value.TheVariants.{Num, Words}
use Rattle.rep_values.specs.Equality.{value_eq-Decides}
use Rattle.rep_schema.specs.declared.schema.Schema.{Schema}
use Rattle.rep_schema.specs.declared.change.Change.{Change}
use Rattle.rep_schema.specs.Tables.{Cells, Rows, columns_of, key_of, find_row, rows_of, AreTables}
use Rattle.rep_schema.specs.Groups.{are_same}
use Rattle.rep_schema.specs.Putting.{after_changes}
use Rattle.rep_schema.proofs.ValuesAt.{are_same-Decides}
use Rattle.rep_calls.specs.declared.call.Call.{Call}
use Rattle.rep_calls.specs.declared.call.Txn.{Txn}
use Rattle.rep_calls.specs.declared.statement.Statement.{Statement}
use Rattle.conflict_detect.specs.ChangeCalls.{call_between, call_of}
use Rattle.unique_resolve.proofs.Settlements.{AreCounters-first}
use Rattle.txn_effects.specs.Calls.{Effect}
use Rattle.txn_effects.specs.Contents.{Content, IsContent, effect_on, content_after}
use Rattle.txn_effects.specs.declared.local.Here.{Here}
use Rattle.txn_effects.specs.declared.local.Stamps.{Stamps}
use Rattle.txn_effects.specs.declared.side.Side.{Side}
use Rattle.txn_effects.specs.Convergent.{is_convergent, begins_with}
use Rattle.txn_effects.specs.Locals.{BlockEffect, local_effect}
use Rattle.rep_laws.specs.Commuting.{IsSound}
use Rattle.rep_laws.proofs.SoundSchemas.{HasKeys-sound, KeysStandAlone-sound}
use Rattle.site_state.specs.Contents.{first_content, txn_of}
use Rattle.site_state.specs.Fits.{SchemaIsKeyed}
use Rattle.site_state.proofs.FittingBlocks.{TxnFits-led, block_applied, block_own}
use Rattle.txn_effects.proofs.StatementEffects.{effect_with}
use Rattle.convergence_laws.specs.Joins.{is_row, inserts_for, inserts_in, parts_in}
use Rattle.convergence_laws.specs.Journals.{IsSoundTxn}
use Rattle.convergence_laws.specs.Laws.{BlocksKeepForms}
use Rattle.convergence_laws.proofs.Moves.{DecisionLaws}
use Rattle.convergence_laws.proofs.RowsCome.{Came}
use Rattle.convergence_laws.proofs.CallsCome.{txn_comes}
use Rattle.convergence_laws.proofs.OnwardComes.{onward_comes}
use Rattle.error_cause_laws.proofs.OneTimeWrites.{OneTimeWrite, Makes, writes_in}
use Rattle.error_cause_laws.proofs.OwnChanges.{AreOwn, block_changes_own}

-- the transaction that a block makes: it fits and keeps the forms, and has the block's changes
pub record BlockMakes (schema : Schema) (here : Here) (tables : List Rows) (block : BlockEffect) : Type 0 where
  pub content : Content
  pub of_tables : content.tables ≡ tables
  pub is_content : IsContent schema content
  pub sound : IsSoundTxn schema (txn_of schema block.changes)
  pub effect : Effect
  pub gives : effect_on schema here.site (txn_of schema block.changes) content ≡ Ok effect
  pub after : (content_after schema here.site (txn_of schema block.changes) content).tables ≡ after_changes schema block.changes tables

keyed : (schema : Schema) → IsSound schema → SchemaIsKeyed schema
keyed schema sound = record { shape = sound.shape; keys = HasKeys-sound schema sound.unbroken sound.shape; apart = KeysStandAlone-sound schema sound.unbroken }

pub block_makes : BlocksKeepForms → (schema : Schema) → IsSound schema → (here : Here) (stamps : Stamps) (statements : List Statement) (tables : List Rows) (block : BlockEffect) → AreTables schema tables
    → local_effect schema here stamps statements tables ≡ Ok block → BlockMakes schema here tables block
block_makes blocks schema sound here stamps statements tables block are gives =
    let content : Content = first_content schema tables in
    let is : IsContent schema content = record { tables = are; counters = AreCounters-first schema } in
    let own = block_own schema (keyed schema sound) here stamps statements content block is gives in
    record {
      content = content;
      of_tables = refl;
      is_content = is;
      sound = record {
        fits = TxnFits-led schema (keyed schema sound) tables (effect_with schema block.changes) are (block_applied schema (keyed schema sound) here stamps statements tables block are gives);
        keeps = blocks schema here stamps statements tables block sound are gives;
      };
      effect = record { changes = block.changes; numbers = content.numbers };
      gives = own;
      after = rw own refl;
    }

-- the site that a key names in front
abbrev name_in : Cells → SiteName
name_in [] = record { 0 = [] }
name_in (Num n ∷ vs) = record { 0 = [] }
name_in (Words text ∷ vs) = record { 0 = text }

named_in : (site : SiteName) (key : Cells) → begins_with (Words site.0) key ≡ true → name_in key ≡ site
named_in site [] begins = cc
named_in site (Num n ∷ vs) begins = let same : Num n ≡ Words site.0 = (value_eq-Decides (Num n) (Words site.0)).0 begins in absurd (cc same)
named_in site (Words text ∷ vs) begins =
    let same : Words text ≡ Words site.0 = (value_eq-Decides (Words text) (Words site.0)).0 begins in
    let texts : text ≡ site.0 = cc in
    ap (λ t. record { 0 = t }) texts

module _ (schema : Schema) (sound : IsSound schema) (decides : DecisionLaws) (blocks : BlocksKeepForms) (table : ℕ) (convergent : is_convergent schema table ≡ true) (key : Cells) where
  abbrev inserts_of : Call → ℕ
  inserts_of call = length (inserts_for schema table key call)

  pub inserts_counted : (calls : List Call) → writes_in inserts_of calls ≡ length (inserts_in schema table key calls)
  inserts_counted [] = refl
  inserts_counted (c ∷ cs) = ap (λ n. inserts_of c + n) (inserts_counted cs) ∙ sym (length-append (inserts_for schema table key c) (inserts_in schema table key cs))

  abbrev row_of : List Rows → Option Cells
  row_of tables = find_row (columns_of schema table) key (rows_of tables table)

  abbrev There : List Rows → Type 0
  There tables = row_of tables ≢ None

  abbrev Comes : Option Cells → Option Cells → List Call → Type 0
  Comes before after calls = Came schema sound decides table 0 convergent before after (inserts_in schema table key calls) (parts_in table key 0 calls)

  -- a row that is there was there or was inserted
  pub there_came : (before after : Option Cells) (calls : List Call) → Comes before after calls → after ≢ None → (before ≢ None) ⊎ (1 ≤ length (inserts_in schema table key calls))
  there_came before after calls came there = go (inserts_in schema table key calls) refl before refl
    where
      go : (rows : List Cells) → inserts_in schema table key calls ≡ rows → (b : Option Cells) → before ≡ b → (before ≢ None) ⊎ (1 ≤ length (inserts_in schema table key calls))
      go rows is (Some row) b = inl (λ none. cc (sym b ∙ none))
      go [] is None b = absurd (there (came.absent (rw (b, is) refl)))
      go (r ∷ rs) is None b = inr (rw is (omega arith))

  -- one that was there is there
  pub there_stays : (before after : Option Cells) (calls : List Call) → Comes before after calls → before ≢ None → after ≢ None
  there_stays before after calls came there none = there (came.none none).0

  -- where it was there, nothing inserts it; where something inserts it, it is there then
  none_inserted : (before after : Option Cells) (calls : List Call) → Comes before after calls → before ≢ None → length (inserts_in schema table key calls) ≡ 0
  none_inserted None after calls came there = absurd (there refl)
  none_inserted (Some row) after calls came there = ap length (came.some row refl)

  inserted_there : (before after : Option Cells) (calls : List Call) → Comes before after calls → 1 ≤ length (inserts_in schema table key calls) → after ≢ None
  inserted_there before after calls came some none =
      let empty : length (inserts_in schema table key calls) ≡ 0 = ap length (came.none none).1 in
      omega (arith, some, empty)

  pub comes_by : (origin : SiteName) (txn : Txn) (content : Content) (effect : Effect) → IsContent schema content → IsSoundTxn schema txn → effect_on schema origin txn content ≡ Ok effect
      → Comes (row_of content.tables) (row_of (content_after schema origin txn content).tables) txn.calls
  comes_by origin txn content effect is txn_sound gives = txn_comes schema sound decides table 0 convergent key txn content origin effect is txn_sound.fits txn_sound.keeps gives

  -- ---- a block

  -- an insert among a block's own changes is a master's, of its own key
  own_inserts : (here : Here) (side : Side) (changes : List Change) → AreOwn schema here side changes → 1 ≤ writes_in inserts_of (map (call_of schema) changes) → (here.is_master ≡ true) × (name_in key ≡ here.site)
  own_inserts here side [] own some = absurd (omega (arith, some))
  own_inserts here side (c ∷ cs) own some = go c.before c.after refl refl some (own_inserts here side cs own.1)
    where
      by : (row : Cells) → c.before ≡ None → c.after ≡ Some row → (b : Bool) → is_row table key c.table (key_of (columns_of schema c.table) row) ≡ b → 1 ≤ length (cond b (row ∷ []) []) + writes_in inserts_of (map (call_of schema) cs)
          → (1 ≤ writes_in inserts_of (map (call_of schema) cs) → (here.is_master ≡ true) × (name_in key ≡ here.site)) → (here.is_master ≡ true) × (name_in key ≡ here.site)
      by row before after false off some later = later (omega (arith, some))
      by row before after true on some later =
          let both = parts_hold (c.table == table) (are_same (key_of (columns_of schema c.table) row) key) on in
          let same : c.table ≡ table = eqb-true c.table table both.0 in
          let keys : key_of (columns_of schema c.table) row ≡ key = (are_same-Decides (key_of (columns_of schema c.table) row) key).0 both.1 in
          let is = own.0.own (ap (is_convergent schema) same ∙ convergent) row before after in
          (is.0, named_in here.site key (subst (λ k. begins_with (Words here.site.0) k ≡ true) keys is.1))
        where
          parts_hold : (a b : Bool) → (a && b) ≡ true → (a ≡ true) × (b ≡ true)
          parts_hold true b e = (refl, e)
          parts_hold false b e = cc

      go : (before after : Option Cells) → c.before ≡ before → c.after ≡ after → 1 ≤ inserts_of (call_between schema c.table before after) + writes_in inserts_of (map (call_of schema) cs)
          → (1 ≤ writes_in inserts_of (map (call_of schema) cs) → (here.is_master ≡ true) × (name_in key ≡ here.site)) → (here.is_master ≡ true) × (name_in key ≡ here.site)
      go None None b a some later = later (omega (arith, some))
      go None (Some row) b a some later = by row b a (is_row table key c.table (key_of (columns_of schema c.table) row)) refl some later
      go (Some row) None b a some later = later (omega (arith, some))
      go (Some row) (Some other) b a some later = later (omega (arith, some))

  pub makes_inserts : (here : Here) (stamps : Stamps) (statements : List Statement) (tables : List Rows) (block : BlockEffect) → AreTables schema tables → local_effect schema here stamps statements tables ≡ Ok block
      → Makes (name_in key) (λ master ts last. master ≡ true → There ts) here stamps.last block.stamps.last tables (after_changes schema block.changes tables) (writes_in inserts_of (map (call_of schema) block.changes))
  makes_inserts here stamps statements tables block are gives = record {
    once = rw (inserts_counted calls) came.one;
    own = λ some. (own_inserts here own.0 block.changes own.1 some).1;
    fresh = λ some already.
        let none = none_inserted (row_of tables) (row_of (after_changes schema block.changes tables)) calls came (already (own_inserts here own.0 block.changes own.1 some).0) in
        let counted = inserts_counted calls in
        omega (arith, some, counted, none);
    made = λ some master. inserted_there (row_of tables) (row_of (after_changes schema block.changes tables)) calls came (rw (← inserts_counted calls) some);
  }
    where
      calls : List Call
      calls = map (call_of schema) block.changes

      own : (side : Side) × AreOwn schema here side block.changes
      own = block_changes_own schema here stamps statements tables block gives

      made : BlockMakes schema here tables block
      made = block_makes blocks schema sound here stamps statements tables block are gives

      came : Comes (row_of tables) (row_of (after_changes schema block.changes tables)) calls
      came = rw (← made.of_tables) (subst (λ (ts : List Rows). Comes (row_of made.content.tables) (row_of ts) calls) (made.after ∙ ap (after_changes schema block.changes) (sym made.of_tables))
          (comes_by here.site (txn_of schema block.changes) made.content made.effect made.is_content made.sound made.gives))

  -- what goes onward inserts no more
  pub onward_inserts : (origin : SiteName) (txn : Txn) (content : Content) (effect : Effect) → IsContent schema content → IsSoundTxn schema txn → effect_on schema origin txn content ≡ Ok effect
      → length (inserts_in schema table key (map (call_of schema) effect.changes)) ≤ length (inserts_in schema table key txn.calls)
  onward_inserts origin txn content effect is txn_sound gives = go (length (inserts_in schema table key (map (call_of schema) effect.changes))) refl
    where
      before : Option Cells
      before = row_of content.tables

      after : Option Cells
      after = row_of (content_after schema origin txn content).tables

      came : Comes before after txn.calls
      came = comes_by origin txn content effect is txn_sound gives

      sent : Comes before after (map (call_of schema) effect.changes)
      sent = onward_comes schema sound decides table 0 convergent key txn content origin effect is txn_sound gives

      go : (n : ℕ) → length (inserts_in schema table key (map (call_of schema) effect.changes)) ≡ n → length (inserts_in schema table key (map (call_of schema) effect.changes)) ≤ length (inserts_in schema table key txn.calls)
      go zero none = rw none (omega arith)
      go (suc n) some =
          let there = inserted_there before after (map (call_of schema) effect.changes) sent (rw some (omega arith)) in
          elim (there_came before after txn.calls came there) [
            | inl was ↦ let none = none_inserted before after (map (call_of schema) effect.changes) sent was in absurd (omega (arith, some, none))
            | inr inserted ↦ let one = sent.one in omega (arith, one, inserted)
          ]

  abbrev pub insert_sign : OneTimeWrite schema
  insert_sign = record {
    owner = name_in key;
    count = inserts_of;
    Present = There;
    Already = λ master tables last. master ≡ true → There tables;
    Given = There;
    comes = λ origin txn content effect is txn_sound gives there.
        rw (inserts_counted txn.calls) (there_came (row_of content.tables) (row_of (content_after schema origin txn content).tables) txn.calls (comes_by origin txn content effect is txn_sound gives) there);
    onward = λ origin txn content effect is txn_sound gives.
        rw (inserts_counted (map (call_of schema) effect.changes), inserts_counted txn.calls) (onward_inserts origin txn content effect is txn_sound gives);
    stays = λ origin txn content effect is txn_sound gives master last already on.
        there_stays (row_of content.tables) (row_of (content_after schema origin txn content).tables) txn.calls (comes_by origin txn content effect is txn_sound gives) (already on);
    still = λ origin txn content effect is txn_sound gives there.
        there_stays (row_of content.tables) (row_of (content_after schema origin txn content).tables) txn.calls (comes_by origin txn content effect is txn_sound gives) there;
    later = λ master tables low high less already. already;
    elsewhere = λ tables others last already off. absurd (true≢false (sym off));
    makes = makes_inserts;
    given = λ master tables last there on. there;
  }
