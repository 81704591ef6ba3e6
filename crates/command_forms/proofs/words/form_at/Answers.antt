-- The table has the words of the commands in their order, each with its form.
use Rattle.std.proofs.Common.{◌∙◌}
use Rattle.script_lex.specs.Lexemes.{lexeme_token}
use Rattle.script_parse.specs.Heads.{heads}
use Rattle.command_forms.specs.Forms.{form_of_head}
use Rattle.command_forms.proofs.Choices.{choice_of-map}
use Rattle.command_forms.proofs.words.form_at.Goals as goal

pub returns : goal.returns
returns c = c.choice_of.ensures ∙ choice_of-map form_of_head heads (lexeme_token c.args.lexeme)
