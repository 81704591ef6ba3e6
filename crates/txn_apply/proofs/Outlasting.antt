-- What agrees with a work's rows does so after independent transactions.
use Rattle.std.proofs.Common.{◌≡◌, true, false, ◌∙◌, refl}
use Rattle.dependency_index.specs.declared.token.Token.{Token}
use Rattle.dependency_index.specs.declared.token.Token.TheVariants as token
use Rattle.dependency_index.specs.Tokens.{txn_tokens, has_token}
use Rattle.rep_laws.specs.Commuting.{TouchesItsTokens}
use Rattle.rep_laws.proofs.ContentAfter.{IsContent-content_after}
use Rattle.rep_laws.proofs.SharedTokens.{has_token-share_token}
use Rattle.rep_laws.proofs.TransactionTouches.{transactions_touch}
use Rattle.txn_apply.specs.Laws.{SupportOutlastsIndependentTransactions}

-- it changes only what its own tokens stand for, none of which is one of the work's
pub support_outlasts : SupportOutlastsIndependentTransactions
support_outlasts work origin other content sound fits independent supports = record {
  is = IsContent-content_after work.schema sound origin other fits content supports.is;
  agree = record {
    rows = λ table key among. touches.others.rows table key (apart (token.Key table key) among) ∙ supports.agree.rows table key among;
    constraints = λ table among.
        let alike = touches.others.constraints table (apart (token.Unique table) among) in
        let before = supports.agree.constraints table among in
        ((λ key. alike.0 key ∙ before.0 key), alike.1 ∙ before.1);
  };
}
  where
    apart : (one : Token) → has_token (txn_tokens work.schema work.txn) one ≡ true → has_token (txn_tokens work.schema other) one ≡ false
    apart = has_token-share_token (txn_tokens work.schema work.txn) (txn_tokens work.schema other) independent

    touches : TouchesItsTokens work.schema origin other content content
    touches = transactions_touch work.schema origin other content content sound fits supports.is supports.is
        (record { rows = λ table key among. refl; constraints = λ table among. ((λ key. refl), refl) })
