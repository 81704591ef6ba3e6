-- One call at two contents that agree on its tokens: they agree on them afterwards, and all else is as it was.
use Rattle.std.proofs.Common.{◌≡◌, ◌≢◌, ℕ, List, [], get_or, Bool, true, false, Ok, Err, refl, sym, ap, ◌∙◌, subst, inl, inr}
use Rattle.std.specs.Prelude.{Result}
use Rattle.std.proofs.lemmas.Bool.{cases_eq}
use Rattle.rep_values.specs.declared.name.SiteName.{SiteName}
use Rattle.rep_values.specs.declared.refusal.ApplyError.{ApplyError}
use Rattle.rep_schema.specs.declared.schema.Schema.{Schema}
use Rattle.rep_schema.specs.Tables.{Cells}
use Rattle.rep_schema.specs.Shape.{HasShape}
use Rattle.rep_calls.specs.declared.call.Call.{Call}
use Rattle.conflict_detect.specs.Fits.{table_of, CallFits}
use Rattle.txn_effects.specs.Parts.{result_then}
use Rattle.rep_schema.specs.Putting.{changes_between, after_changes}
use Rattle.txn_effects.specs.Calls.{KeysStandAlone, row_named, RowEffect, row_effect, Effect, call_effect}
use Rattle.conflict_detect.specs.KeysNamed.{key_named}
use Rattle.dependency_index.specs.declared.token.Token.{Token}
use Rattle.dependency_index.specs.declared.token.Token.TheVariants as token
use Rattle.dependency_index.specs.Tokens.{touches_constraints, has_token}
use Rattle.txn_effects.specs.Contents.{Content, IsContent}
use Rattle.rep_laws.specs.Commuting.{row_at, constrained_at, counters_at, AgreeOn, AgreeOff}
use Rattle.rep_laws.proofs.TokenTests.{Covers, AreElsewhere, place_cases, elsewhere_off}
use Rattle.rep_laws.proofs.ChangedRows.{find_row-changed, find_row-changed_other}
use Rattle.rep_laws.proofs.RowEffects.{constrained_in, counters-row_effect_other, key_of-row_effect, plain-row_effect}
use Rattle.rep_laws.proofs.RowsEndAlike.{RowEndsAlike, row_effect-alike}

-- tables and counters after an effect
abbrev pub content_by : Schema → Effect → Content → Content
content_by schema effect content = record { tables = after_changes schema effect.changes content.tables; numbers = effect.numbers }

-- the same changes, after which two contents agree on tokens, and one of them is off the tokens as it was
pub record AgreeAfter (schema : Schema) (tokens : List Token) (one other : Content) (effect last : Effect) : Type 0 where
  pub changes : effect.changes ≡ last.changes
  pub own : AgreeOn schema tokens (content_by schema effect one) (content_by schema last other)
  pub others : AgreeOff schema tokens (content_by schema effect one) one

-- such effects, or the same error
abbrev pub EndsAlikeOn : {E : Type 0} → Schema → List Token → Content → Content → Result Effect E → Result Effect E → Type 0
EndsAlikeOn schema tokens one other (Ok effect) (Ok last) = AgreeAfter schema tokens one other effect last
EndsAlikeOn schema tokens one other (Ok effect) (Err error) = ⊥
EndsAlikeOn schema tokens one other (Err error) (Ok effect) = ⊥
EndsAlikeOn schema tokens one other (Err error) (Err last) = error ≡ last

module _ (schema : Schema) (origin : SiteName) (tokens : List Token) (shape : HasShape schema) (apart : KeysStandAlone schema) (call : Call) (fits : CallFits schema call) (covers : Covers schema tokens call) where
  abbrev table : ℕ
  table = table_of call

  abbrev key : Cells
  key = key_named schema call

  -- what becomes of a content by the effect on the row that the call names
  abbrev effect_by_row : Content → RowEffect → Effect
  effect_by_row content effect = record { changes = changes_between table (row_named schema content.tables call) effect.after; numbers = effect.numbers }

  abbrev content_by_row : Content → RowEffect → Content
  content_by_row content effect = content_by schema (effect_by_row content effect) content

  module _ (content : Content) (is : IsContent schema content) (effect : RowEffect) (gives : row_effect schema content.tables content.numbers origin call (row_named schema content.tables call) ≡ Ok effect) where
    row_here : row_at schema (content_by_row content effect) table key ≡ effect.after
    row_here = find_row-changed schema content.tables is.tables table fits.table key (row_named schema content.tables call) effect.after refl
        (key_of-row_effect schema content.tables content.numbers origin shape is.counters apart is.tables call (row_named schema content.tables call) effect fits refl gives)

    row_elsewhere : (other_table : ℕ) (other_key : Cells) → AreElsewhere other_table other_key table key → row_at schema (content_by_row content effect) other_table other_key ≡ row_at schema content other_table other_key
    row_elsewhere other_table other_key elsewhere = find_row-changed_other schema content.tables is.tables table fits.table key (row_named schema content.tables call) effect.after refl
        (key_of-row_effect schema content.tables content.numbers origin shape is.counters apart is.tables call (row_named schema content.tables call) effect fits refl gives)
        other_table other_key elsewhere

    counters_elsewhere : (other_table : ℕ) → other_table ≢ table → counters_at (content_by_row content effect) other_table ≡ counters_at content other_table
    counters_elsewhere other_table other = counters-row_effect_other schema content.tables content.numbers origin call (row_named schema content.tables call) effect other_table other gives

    -- off the tokens all is as it was
    call_leaves_others : AgreeOff schema tokens (content_by_row content effect) content
    call_leaves_others = record {
      rows = λ other_table other_key off. row_elsewhere other_table other_key (elsewhere_off tokens other_table other_key table key off covers.row);
      constraints = λ other_table off.
          elim (cases_eq other_table table) [
            | inl same ↦ rw same (untouched (rw same at off))
            | inr other ↦ (λ other_key. ap (constrained_in schema other_table) (row_elsewhere other_table other_key (λ same equal. other same)), counters_elsewhere other_table other)
          ];
    }
      where
        plain : has_token tokens (token.Unique table) ≡ false → (b : Bool) → touches_constraints schema call ≡ b → touches_constraints schema call ≡ false
        plain off true touches = let on = covers.constraints touches in cc
        plain off false touches = touches

        untouched : has_token tokens (token.Unique table) ≡ false
            → ((other_key : Cells) → constrained_at schema (content_by_row content effect) table other_key ≡ constrained_at schema content table other_key)
            × (counters_at (content_by_row content effect) table ≡ counters_at content table)
        untouched off =
            let stays = plain-row_effect schema content.tables content.numbers origin shape is.counters apart is.tables call (row_named schema content.tables call) effect fits refl
            (plain off (touches_constraints schema call) refl) gives in (
              λ other_key. elim (place_cases table other_key table key) [
                | inl same ↦ rw (same.1) (ap (constrained_in schema table) row_here ∙ stays.1)
                | inr elsewhere ↦ ap (constrained_in schema table) (row_elsewhere table other_key elsewhere)
              ],
              ap (λ ns. get_or ns table []) stays.0,
            )

  module _ (one other : Content) (is_one : IsContent schema one) (is_other : IsContent schema other) (agree : AgreeOn schema tokens one other) where
    -- the row that the call names is the same
    same_named : row_named schema one.tables call ≡ row_named schema other.tables call
    same_named = agree.rows table key covers.row

    module _ (effect last : RowEffect)
        (gives : row_effect schema one.tables one.numbers origin call (row_named schema one.tables call) ≡ Ok effect)
        (last_gives : row_effect schema other.tables other.numbers origin call (row_named schema other.tables call) ≡ Ok last)
        (ends : RowEndsAlike table one other (Ok effect) (Ok last)) where
      rows_agree : (some_table : ℕ) (some_key : Cells) → row_at schema one some_table some_key ≡ row_at schema other some_table some_key
          → row_at schema (content_by_row one effect) some_table some_key ≡ row_at schema (content_by_row other last) some_table some_key
      rows_agree some_table some_key was = elim (place_cases some_table some_key table key) [
        | inl same ↦ rw (same.0, same.1) (row_here one is_one effect gives ∙ ends.0 ∙ sym (row_here other is_other last last_gives))
        | inr elsewhere ↦ row_elsewhere one is_one effect gives some_table some_key elsewhere ∙ was ∙ sym (row_elsewhere other is_other last last_gives some_table some_key elsewhere)
      ]

      constrained_agree : (some_table : ℕ) (some_key : Cells) → constrained_at schema one some_table some_key ≡ constrained_at schema other some_table some_key
          → constrained_at schema (content_by_row one effect) some_table some_key ≡ constrained_at schema (content_by_row other last) some_table some_key
      constrained_agree some_table some_key was = elim (place_cases some_table some_key table key) [
        | inl same ↦ rw (same.0, same.1) (ap (constrained_in schema table) (row_here one is_one effect gives ∙ ends.0 ∙ sym (row_here other is_other last last_gives)))
        | inr elsewhere ↦
            ap (constrained_in schema some_table) (row_elsewhere one is_one effect gives some_table some_key elsewhere)
            ∙ was
            ∙ sym (ap (constrained_in schema some_table) (row_elsewhere other is_other last last_gives some_table some_key elsewhere))
      ]

      counters_agree : (some_table : ℕ) → counters_at one some_table ≡ counters_at other some_table
          → counters_at (content_by_row one effect) some_table ≡ counters_at (content_by_row other last) some_table
      counters_agree some_table was = elim (cases_eq some_table table) [
        | inl same ↦ rw same (ends.1 (rw same at was))
        | inr apart_from ↦ counters_elsewhere one is_one effect gives some_table apart_from ∙ was ∙ sym (counters_elsewhere other is_other last last_gives some_table apart_from)
      ]

      -- both contents agree on the tokens afterwards
      call_keeps_agreement : AgreeAfter schema tokens one other (effect_by_row one effect) (effect_by_row other last)
      call_keeps_agreement = record {
        changes = rw (same_named, ends.0) refl;
        own = record {
          rows = λ some_table some_key on. rows_agree some_table some_key (agree.rows some_table some_key on);
          constraints = λ some_table on.
              let was = agree.constraints some_table on in
              (λ some_key. constrained_agree some_table some_key (was.0 some_key), counters_agree some_table was.1);
        };
        others = call_leaves_others one is_one effect gives;
      }

    -- a call that the tokens cover ends alike
    pub call_touches : EndsAlikeOn schema tokens one other (call_effect schema one.tables one.numbers origin call) (call_effect schema other.tables other.numbers origin call)
    call_touches =
        go (row_effect schema one.tables one.numbers origin call (row_named schema one.tables call)) (row_effect schema other.tables other.numbers origin call (row_named schema other.tables call)) refl refl
        (subst (λ before. RowEndsAlike table one other (row_effect schema one.tables one.numbers origin call (row_named schema one.tables call)) (row_effect schema other.tables other.numbers origin call before)) same_named
        (row_effect-alike schema origin tokens one other is_one is_other agree shape apart call (row_named schema one.tables call) fits covers refl same_named))
      where
        go : (result last : Result RowEffect ApplyError)
            → row_effect schema one.tables one.numbers origin call (row_named schema one.tables call) ≡ result
            → row_effect schema other.tables other.numbers origin call (row_named schema other.tables call) ≡ last
            → RowEndsAlike table one other result last
            → EndsAlikeOn {E = ApplyError} schema tokens one other (result_then result (λ effect. Ok (effect_by_row one effect))) (result_then last (λ effect. Ok (effect_by_row other effect)))
        go (Ok effect) (Ok last) gives last_gives ends = call_keeps_agreement effect last gives last_gives ends
        go (Ok effect) (Err error) gives last_gives ends = absurd ends
        go (Err error) (Ok effect) gives last_gives ends = absurd ends
        go (Err error) (Err last) gives last_gives ends = ends
