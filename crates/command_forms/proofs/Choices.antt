-- A table whose values are changed.
use Rattle.std.proofs.Common.{◌≡◌, ℕ, Bool, true, false, cond, List, [], ◌∷◌, map, Some, refl}
use Rattle.std.specs.Prelude.{nat_eq}
use Rattle.std.specs.Option.{option_map}
use Rattle.std.specs.Cmp.Lexicographic.{pointwise}
use Rattle.script_lex.specs.declared.token.Token.{Token}
use Rattle.script_lex.specs.declared.token.Token.TheVariants as token
use Rattle.script_lex.specs.Forms.{symbol_bytes}
use Rattle.script_words.specs.Words.{chosen, choice_of}

module _ {A B : Type 0} (f : A → B) where
  -- what stands beside a word
  pub chosen-map : (table : List (List ℕ × A)) (word : List ℕ)
      → chosen (map (λ e. (e.0, f e.1)) table) word ≡ option_map f (chosen table word)
  chosen-map [] word = refl
  chosen-map (e ∷ rest) word = go (pointwise nat_eq e.0 word) (chosen-map rest word)
    where
      go : (b : Bool) → chosen (map (λ e. (e.0, f e.1)) rest) word ≡ option_map f (chosen rest word)
          → cond b (Some (f e.1)) (chosen (map (λ e. (e.0, f e.1)) rest) word) ≡ option_map f (cond b (Some e.1) (chosen rest word))
      go true more = refl
      go false more = more

  -- what stands beside a token
  pub choice_of-map : (table : List (List ℕ × A)) (t : Token)
      → choice_of (map (λ e. (e.0, f e.1)) table) t ≡ option_map f (choice_of table t)
  choice_of-map table (token.Word bytes) = chosen-map table bytes
  choice_of-map table (token.Number minus size) = refl
  choice_of-map table (token.Words bytes) = refl
  choice_of-map table (token.Symbol s) = chosen-map table (symbol_bytes s)
