-- Lines of scripts with live parts, whose commands are worked out by hand.
use Rattle.std.proofs.Common.{◌≡◌, [], ◌∷◌, refl, Ok, Err}
use Rattle.std.specs.Prelude.{codes}
use Rattle.rep_declare.specs.declared.declaration.Declare.TheVariants as declare
use Rattle.script_lex.specs.Forms.{has_form, longest_up_to}
use Rattle.script_lex.specs.Tokens.{token_of, tokens_from}
use Rattle.script_lex.specs.Lines.{lexed}
use Rattle.script_words.specs.Reading.{one}
use Rattle.script_parse.specs.declared.command.Command.TheVariants as command
use Rattle.script_parse.specs.declared.live_lines.LiveCommand.TheVariants as live_command
use Rattle.script_parse.specs.Parts.{site_of}
use Rattle.script_parse.specs.Parsed.{command_of, parsed}
use Rattle.script_parse.specs.LiveLines.{live_command_of, live_parsed}

-- The three forms.

live_line : live_parsed (codes "live A") ≡ Ok (live_command.Open (site_of (codes "A")))
unfolding lexed tokens_from longest_up_to has_form token_of one command_of live_command_of
live_line = refl

session_line : live_parsed (codes "session") ≡ Ok live_command.Session
unfolding lexed tokens_from longest_up_to has_form token_of one command_of live_command_of
session_line = refl

end_line : live_parsed (codes "  end ") ≡ Ok live_command.End
unfolding lexed tokens_from longest_up_to has_form token_of one command_of live_command_of
end_line = refl

live_at_a_site_named_live : live_parsed (codes "live live") ≡ Ok (live_command.Open (site_of (codes "live")))
unfolding lexed tokens_from longest_up_to has_form token_of one command_of live_command_of
live_at_a_site_named_live = refl

live_without_a_name : live_parsed (codes "live") ≡ Err 6
unfolding lexed tokens_from longest_up_to has_form token_of one command_of live_command_of
live_without_a_name = refl

live_with_two_names : live_parsed (codes "live A B") ≡ Err 6
unfolding lexed tokens_from longest_up_to has_form token_of one command_of live_command_of
live_with_two_names = refl

live_at_a_text : live_parsed (codes "live 'A'") ≡ Err 6
unfolding lexed tokens_from longest_up_to has_form token_of one command_of live_command_of
live_at_a_text = refl

live_at_no_name : live_parsed (codes "live A-B") ≡ Err 6
unfolding lexed tokens_from longest_up_to has_form token_of one command_of live_command_of
live_at_no_name = refl

session_with_a_number : live_parsed (codes "session 1") ≡ Err 6
unfolding lexed tokens_from longest_up_to has_form token_of one command_of live_command_of
session_with_a_number = refl

end_and_more : live_parsed (codes "end now") ≡ Err 6
unfolding lexed tokens_from longest_up_to has_form token_of one command_of live_command_of
end_and_more = refl

-- Other first words.

longer_word : live_parsed (codes "sessions") ≡ Err 5
unfolding lexed tokens_from longest_up_to has_form token_of one command_of live_command_of
longer_word = refl

larger_letters : live_parsed (codes "END") ≡ Err 5
unfolding lexed tokens_from longest_up_to has_form token_of one command_of live_command_of
larger_letters = refl

text_in_front : live_parsed (codes "'end'") ≡ Err 5
unfolding lexed tokens_from longest_up_to has_form token_of one command_of live_command_of
text_in_front = refl

bad_token_comes_first : live_parsed (codes "frob !") ≡ Err 4
unfolding lexed tokens_from longest_up_to has_form token_of one command_of live_command_of
bad_token_comes_first = refl

bad_token_behind_live : live_parsed (codes "live !") ≡ Err 4
unfolding lexed tokens_from longest_up_to has_form token_of one command_of live_command_of
bad_token_behind_live = refl

-- Lines of every script.

txn_line : live_parsed (codes "txn NYC_2") ≡ Ok (live_command.Plain (command.Txn (site_of (codes "NYC_2"))))
unfolding lexed tokens_from longest_up_to has_form token_of one command_of live_command_of
txn_line = refl

site_named_end : live_parsed (codes "site end") ≡ Ok (live_command.Plain (command.Declare (declare.Site (site_of (codes "end")))))
unfolding lexed tokens_from longest_up_to has_form token_of one command_of live_command_of
site_named_end = refl

commit_line : live_parsed (codes "commit") ≡ Ok (live_command.Plain command.Commit)
unfolding lexed tokens_from longest_up_to has_form token_of one command_of live_command_of
commit_line = refl

commit_and_more : live_parsed (codes "commit A") ≡ Err 6
unfolding lexed tokens_from longest_up_to has_form token_of one command_of live_command_of
commit_and_more = refl

comment : live_parsed (codes "# live A") ≡ Ok (live_command.Plain command.Nothing)
unfolding lexed tokens_from longest_up_to has_form token_of one command_of live_command_of
comment = refl

spaces : live_parsed (codes "  ") ≡ Ok (live_command.Plain command.Nothing)
unfolding lexed tokens_from longest_up_to has_form token_of one command_of live_command_of
spaces = refl

empty_line : live_parsed [] ≡ Ok (live_command.Plain command.Nothing)
unfolding lexed tokens_from longest_up_to has_form token_of one command_of live_command_of
empty_line = refl

unprintable_byte : live_parsed (9 ∷ codes "end") ≡ Err 3
unfolding lexed tokens_from longest_up_to has_form token_of one command_of live_command_of
unprintable_byte = refl

-- The same words in other scripts.

live_in_other_scripts : parsed (codes "live A") ≡ Err 5
unfolding lexed tokens_from longest_up_to has_form token_of one command_of
live_in_other_scripts = refl

session_in_other_scripts : parsed (codes "session") ≡ Err 5
unfolding lexed tokens_from longest_up_to has_form token_of one command_of
session_in_other_scripts = refl

end_in_other_scripts : parsed (codes "end now") ≡ Err 5
unfolding lexed tokens_from longest_up_to has_form token_of one command_of
end_in_other_scripts = refl
