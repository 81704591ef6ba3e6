-- Tokens none of which is of a table's constraints.
use Rattle.std.proofs.Common.{◌≡◌, ℕ, List, [], ◌∷◌, false, length, refl, sym, ap, ◌∙◌}
use Rattle.std.specs.List.{list_any}
use Rattle.std.proofs.lemmas.List.{ext_get_or, length-map}
use Rattle.rep_schema.specs.declared.schema.Schema.{Schema}
use Rattle.unique_resolve.specs.Numbers.{Numbers, AreCounters}
use Rattle.txn_effects.specs.Contents.{Content}
use Rattle.dependency_index.specs.declared.token.Token.{Token}
use Rattle.dependency_index.specs.declared.token.Token.TheVariants as token
use Rattle.dependency_index.specs.Tokens.{has_token, is_unique_token}
use Rattle.rep_laws.specs.Commuting.{AgreeOnConstraints, AgreeOff}

-- no table's constraints are among them
pub has_token-plain : (tokens : List Token) (table : ℕ) → list_any is_unique_token tokens ≡ false → has_token tokens (token.Unique table) ≡ false
has_token-plain [] table plain = refl
has_token-plain (token.Key other key ∷ tokens) table plain = has_token-plain tokens table plain
has_token-plain (token.Unique other ∷ tokens) table plain = cc

-- so all tables and counters agree on those
pub AgreeOnConstraints-plain : (schema : Schema) (tokens : List Token) (one other : Content) → list_any is_unique_token tokens ≡ false → AgreeOnConstraints schema tokens one other
AgreeOnConstraints-plain schema tokens one other plain table among = let none = has_token-plain tokens table plain in cc

-- counters of one schema are of as many tables
length-AreCounters : (schema : Schema) (numbers others : Numbers) → AreCounters schema numbers → AreCounters schema others → length numbers ≡ length others
length-AreCounters schema numbers others counters other_counters = sym (length-map numbers length) ∙ ap length (counters ∙ sym other_counters) ∙ length-map others length

-- contents that agree off such tokens have the same counters
pub numbers-AgreeOff : (schema : Schema) (tokens : List Token) (one other : Content) → list_any is_unique_token tokens ≡ false
    → AreCounters schema one.numbers → AreCounters schema other.numbers → AgreeOff schema tokens one other → one.numbers ≡ other.numbers
numbers-AgreeOff schema tokens one other plain counters other_counters agree =
    ext_get_or [] one.numbers other.numbers (length-AreCounters schema one.numbers other.numbers counters other_counters) (λ table within. (agree.constraints table (has_token-plain tokens table plain)).1)
