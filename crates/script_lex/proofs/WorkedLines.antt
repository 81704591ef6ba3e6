-- Lines whose tokens are worked out by hand.
use Rattle.std.proofs.Common.{◌≡◌, [], ◌∷◌, refl, true, false, Ok, Err}
use Rattle.std.specs.Prelude.{codes, replicate}
use Rattle.script_lex.specs.declared.token.Symbol.TheVariants as symbol
use Rattle.script_lex.specs.declared.token.Token.TheVariants as token
use Rattle.script_lex.specs.Forms.{has_form, longest_up_to}
use Rattle.script_lex.specs.Tokens.{token_of, tokens_from}
use Rattle.script_lex.specs.Lines.{lexed}

dash_in_word : lexed (codes "Q-5 1-2") ≡ Ok (token.Word (codes "Q-5") ∷ token.Number false 1 ∷ token.Number true 2 ∷ [])
unfolding lexed tokens_from longest_up_to has_form token_of
dash_in_word = refl

number_then_word : lexed (codes "12abc") ≡ Ok (token.Number false 12 ∷ token.Word (codes "abc") ∷ [])
unfolding lexed tokens_from longest_up_to has_form token_of
number_then_word = refl

two_texts : lexed (codes "'a''b'") ≡ Ok (token.Words (codes "a") ∷ token.Words (codes "b") ∷ [])
unfolding lexed tokens_from longest_up_to has_form token_of
two_texts = refl

longest_symbol_first : lexed (codes "<==+-3") ≡ Ok (token.Symbol symbol.Le ∷ token.Symbol symbol.Eq ∷ token.Symbol symbol.Plus ∷ token.Number true 3 ∷ [])
unfolding lexed tokens_from longest_up_to has_form token_of
longest_symbol_first = refl

leading_zeros : lexed (codes "007 -0") ≡ Ok (token.Number false 7 ∷ token.Number true 0 ∷ [])
unfolding lexed tokens_from longest_up_to has_form token_of
leading_zeros = refl

comment_has_no_tokens : lexed (codes "# !") ≡ Ok []
unfolding lexed
comment_has_no_tokens = refl

spaces_have_no_tokens : lexed (codes "   ") ≡ Ok []
unfolding lexed
spaces_have_no_tokens = refl

comment_begins_the_line : lexed (codes " # x") ≡ Err 4
unfolding lexed tokens_from longest_up_to has_form token_of
comment_begins_the_line = refl

lone_minus : lexed (codes "--5") ≡ Err 4
unfolding lexed tokens_from longest_up_to has_form token_of
lone_minus = refl

open_text : lexed (codes "a 'b") ≡ Err 4
unfolding lexed tokens_from longest_up_to has_form token_of
open_text = refl

seventeen_digits : lexed (codes "a 01234567890123456") ≡ Err 4
unfolding lexed tokens_from longest_up_to has_form token_of
seventeen_digits = refl

word_of_31 : lexed (codes "abcdefghijabcdefghijabcdefghijk") ≡ Err 4
unfolding lexed tokens_from longest_up_to has_form token_of
word_of_31 = refl

tab_in_comment : lexed (35 ∷ 9 ∷ []) ≡ Err 3
unfolding lexed
tab_in_comment = refl

too_long_before_odd_bytes : lexed (replicate 1025 9) ≡ Err 1
unfolding lexed
too_long_before_odd_bytes = refl
