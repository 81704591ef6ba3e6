-- Two transactions that share no token do the same in either order.
use Rattle.std.proofs.Common.{◌≡◌, ℕ, Bool, true, false, List, refl, sym, ◌∙◌}
use Rattle.rep_values.specs.declared.name.SiteName.{SiteName}
use Rattle.rep_schema.specs.declared.schema.Schema.{Schema}
use Rattle.rep_schema.specs.Tables.{Cells}
use Rattle.rep_calls.specs.declared.call.Txn.{Txn}
use Rattle.conflict_detect.specs.Fits.{TxnFits}
use Rattle.dependency_index.specs.declared.token.Token.{Token}
use Rattle.dependency_index.specs.declared.token.Token.TheVariants.{Key, Unique}
use Rattle.dependency_index.specs.Tokens.{txn_tokens, has_token}
use Rattle.txn_effects.specs.Contents.{Content, content_after, IsContent}
use Rattle.rep_laws.specs.Commuting.{IsSound, row_at, counters_at, AgreeOn, AgreeOff, TouchesItsTokens, TransactionsTouchTheirTokens, IndependentTransactionsCommute}
use Rattle.rep_laws.proofs.SharedTokens.{has_token-share_token, has_token-share_token_back}
use Rattle.rep_laws.proofs.ContentAfter.{IsContent-content_after}
use Rattle.rep_laws.proofs.SameContent.{same_content}

-- what is among some tokens isn't among others
abbrev AreApart : List Token → List Token → Type 0
AreApart tokens others = (one : Token) → has_token tokens one ≡ true → has_token others one ≡ false

-- a content agrees with itself on all tokens
AgreeOn-itself : (schema : Schema) (tokens : List Token) (content : Content) → AgreeOn schema tokens content content
AgreeOn-itself schema tokens content = record { rows = λ table key among. refl; constraints = λ table among. ((λ key. refl), refl) }

-- contents that agree on all but some tokens agree on tokens that are apart from them
AgreeOn-AgreeOff : (schema : Schema) (tokens others : List Token) (one other : Content) → AreApart tokens others → AgreeOff schema others one other → AgreeOn schema tokens other one
AgreeOn-AgreeOff schema tokens others one other apart off = record {
  rows = λ table key among. sym (off.rows table key (apart (Key table key) among));
  constraints = λ table among.
      let alike = off.constraints table (apart (Unique table) among) in
      ((λ key. sym (alike.0 key)), sym alike.1);
}

-- contents that two transactions with these tokens lead to: each alone from the first content, and both in either order
record Lead (schema : Schema) (tokens others : List Token) (content one other other_behind one_behind : Content) : Type 0 where
  apart : AreApart tokens others
  apart_back : AreApart others tokens
  one_alone : AgreeOff schema tokens one content
  other_alone : AgreeOff schema others other content
  one_off : AgreeOff schema tokens one_behind other
  other_off : AgreeOff schema others other_behind one
  one_own : AgreeOn schema tokens one one_behind
  other_own : AgreeOn schema others other other_behind

module _ (schema : Schema) (tokens others : List Token) (content one other other_behind one_behind : Content)
    (lead : Lead schema tokens others content one other other_behind one_behind) where
  -- at each key there is the same row at the end, or none
  same_rows : (table : ℕ) (key : Cells) → row_at schema other_behind table key ≡ row_at schema one_behind table key
  same_rows table key = go (has_token tokens (Key table key)) (has_token others (Key table key)) refl refl
    where
      go : (in_tokens in_others : Bool) → has_token tokens (Key table key) ≡ in_tokens → has_token others (Key table key) ≡ in_others
          → row_at schema other_behind table key ≡ row_at schema one_behind table key
      go true in_others among whether = lead.other_off.rows table key (lead.apart (Key table key) among) ∙ lead.one_own.rows table key among
      go false true off among = sym (lead.other_own.rows table key among) ∙ sym (lead.one_off.rows table key off)
      go false false off other_off = lead.other_off.rows table key other_off ∙ lead.one_alone.rows table key off
          ∙ sym (lead.other_alone.rows table key other_off) ∙ sym (lead.one_off.rows table key off)

  -- and each table has the same counters
  same_counters : (table : ℕ) → counters_at other_behind table ≡ counters_at one_behind table
  same_counters table = go (has_token tokens (Unique table)) (has_token others (Unique table)) refl refl
    where
      go : (in_tokens in_others : Bool) → has_token tokens (Unique table) ≡ in_tokens → has_token others (Unique table) ≡ in_others
          → counters_at other_behind table ≡ counters_at one_behind table
      go true in_others among whether = (lead.other_off.constraints table (lead.apart (Unique table) among)).1 ∙ (lead.one_own.constraints table among).1
      go false true off among = sym (lead.other_own.constraints table among).1 ∙ sym (lead.one_off.constraints table off).1
      go false false off other_off = (lead.other_off.constraints table other_off).1 ∙ (lead.one_alone.constraints table off).1
          ∙ sym (lead.other_alone.constraints table other_off).1 ∙ sym (lead.one_off.constraints table off).1

module _ (touch : TransactionsTouchTheirTokens) (schema : Schema) (sound : IsSound schema) where
  -- a transaction changes nothing but what its own tokens stand for
  changes_its_own : (origin : SiteName) (txn : Txn) (content : Content) → TxnFits schema txn → IsContent schema content
      → AgreeOff schema (txn_tokens schema txn) (content_after schema origin txn content) content
  changes_its_own origin txn content fits is =
      (touch schema origin txn content content sound fits is is (AgreeOn-itself schema (txn_tokens schema txn) content)).others

  -- behind another whose tokens are apart from its own, it does what it does alone
  touches_behind : (origin other_origin : SiteName) (txn other : Txn) (content : Content) → TxnFits schema txn → TxnFits schema other → IsContent schema content
      → AreApart (txn_tokens schema txn) (txn_tokens schema other)
      → TouchesItsTokens schema origin txn content (content_after schema other_origin other content)
  touches_behind origin other_origin txn other content fits other_fits is apart =
      touch schema origin txn content (content_after schema other_origin other content) sound fits is (IsContent-content_after schema sound other_origin other other_fits content is)
      (AgreeOn-AgreeOff schema (txn_tokens schema txn) (txn_tokens schema other) (content_after schema other_origin other content) content apart
      (changes_its_own other_origin other content other_fits is))

-- where transactions depend on what their tokens stand for, and change nothing else, two that share no token commute
pub commute_by_tokens : TransactionsTouchTheirTokens → IndependentTransactionsCommute
commute_by_tokens touch schema origin other_origin txn other content sound fits other_fits is independent =
    let apart = has_token-share_token (txn_tokens schema txn) (txn_tokens schema other) independent in
    let apart_back = has_token-share_token_back (txn_tokens schema txn) (txn_tokens schema other) independent in
    let one_touches = touches_behind touch schema sound origin other_origin txn other content fits other_fits is apart in
    let other_touches = touches_behind touch schema sound other_origin origin other txn content other_fits fits is apart_back in
    let after_one = content_after schema origin txn content in
    let after_other = content_after schema other_origin other content in
    let one_is = IsContent-content_after schema sound origin txn fits content is in
    let other_is = IsContent-content_after schema sound other_origin other other_fits content is in
    let lead : Lead schema (txn_tokens schema txn) (txn_tokens schema other) content after_one after_other (content_after schema other_origin other after_one) (content_after schema origin txn after_other) = record {
      apart = apart;
      apart_back = apart_back;
      one_alone = one_touches.others;
      other_alone = other_touches.others;
      one_off = changes_its_own touch schema sound origin txn after_other fits other_is;
      other_off = changes_its_own touch schema sound other_origin other after_one other_fits one_is;
      one_own = one_touches.own;
      other_own = other_touches.own;
    } in
    record {
      same = same_content schema (content_after schema other_origin other after_one) (content_after schema origin txn after_other)
          (IsContent-content_after schema sound other_origin other other_fits after_one one_is)
          (IsContent-content_after schema sound origin txn fits after_other other_is)
          (same_rows schema (txn_tokens schema txn) (txn_tokens schema other) content after_one after_other _ _ lead)
          (same_counters schema (txn_tokens schema txn) (txn_tokens schema other) content after_one after_other _ _ lead);
      first = one_touches.end;
      second = other_touches.end;
    }
