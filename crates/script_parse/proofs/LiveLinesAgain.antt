-- Scripts with live parts: lines of every script are read as they were, and commands as they are written.
use Rattle.std.proofs.Common.{◌≡◌, ℕ, Bool, true, false, List, [], ◌∷◌, Some, None, Ok, Err, refl, subst, nat_eq}
use Rattle.std.specs.Prelude.{Result, if◌then◌else◌, codes}
use Rattle.std.specs.Option.{is_some}
use Rattle.std.specs.Cmp.Lexicographic.{pointwise}
use Rattle.std.proofs.lemmas.Bool.Decides.{Decides-eqb}
use Rattle.std.proofs.lemmas.Slice.Eq.{slice_eq-Decides}
use Rattle.rep_values.specs.declared.name.SiteName.{SiteName}
use Rattle.script_lex.specs.declared.token.Symbol.TheVariants as symbol
use Rattle.script_lex.specs.declared.token.Token.{Token}
use Rattle.script_lex.specs.declared.token.Token.TheVariants as token
use Rattle.script_lex.specs.Lines.{lexed}
use Rattle.script_words.specs.Words.{chosen, is_chosen, choice_of}
use Rattle.script_words.specs.Reading.{◌>>=◌, one, ended, whole}
use Rattle.script_words.specs.Parts.{choice}
use Rattle.script_parse.specs.declared.command.Command.{Command}
use Rattle.script_parse.specs.declared.live_lines.LiveHead.{LiveHead}
use Rattle.script_parse.specs.declared.live_lines.LiveHead.TheVariants as head
use Rattle.script_parse.specs.declared.live_lines.LiveCommand.{LiveCommand}
use Rattle.script_parse.specs.declared.live_lines.LiveCommand.TheVariants as live_command
use Rattle.script_parse.specs.Heads.{heads}
use Rattle.script_parse.specs.Parts.{site}
use Rattle.script_parse.specs.Parsed.{command_of}
use Rattle.script_parse.specs.Spelled.{spelled}
use Rattle.script_parse.specs.LiveLines.{live_heads, live_row_of, live_row, begins_live, as_plain, live_command_of, live_spelled, IsLiveWellFormed}
use Rattle.script_parse.specs.LiveLaws.{is_live, KeepsLines, KeepsCommands}
use Rattle.script_parse.proofs.ReadAgain.{reads_again}

-- The three words are no command words of other scripts.

same_bytes : (word bytes : List ℕ) → pointwise nat_eq word bytes ≡ true → word ≡ bytes
same_bytes word bytes e = (slice_eq-Decides Decides-eqb word bytes _ refl).0 e

no_head_by : (word bytes : List ℕ) → chosen heads word ≡ None → pointwise nat_eq word bytes ≡ true → chosen heads bytes ≡ None
no_head_by word bytes none e = subst (λ (b : List ℕ). chosen heads b ≡ None) (same_bytes word bytes e) none

word_is_no_head : (bytes : List ℕ) → is_some (chosen live_heads bytes) ≡ true → chosen heads bytes ≡ None
word_is_no_head bytes is = go (pointwise nat_eq (codes "live") bytes) (pointwise nat_eq (codes "session") bytes) (pointwise nat_eq (codes "end") bytes) refl refl refl is
  where
    go : (l s e : Bool) → pointwise nat_eq (codes "live") bytes ≡ l → pointwise nat_eq (codes "session") bytes ≡ s → pointwise nat_eq (codes "end") bytes ≡ e
        → is_some (if l then Some head.Open else if s then Some head.Session else if e then Some head.End else None) ≡ true → chosen heads bytes ≡ None
    go true s e live session end is = no_head_by (codes "live") bytes refl live
    go false true e live session end is = no_head_by (codes "session") bytes refl session
    go false false true live session end is = no_head_by (codes "end") bytes refl end
    go false false false live session end is = absurd (cc is)

is_no_head : (t : Token) → is_chosen live_heads t ≡ true → choice_of heads t ≡ None
is_no_head (token.Word bytes) is = word_is_no_head bytes is
is_no_head (token.Number minus size) is = refl
is_no_head (token.Words bytes) is = refl
is_no_head (token.Symbol symbol.Colon) is = refl
is_no_head (token.Symbol symbol.Comma) is = refl
is_no_head (token.Symbol symbol.Eq) is = refl
is_no_head (token.Symbol symbol.Ne) is = refl
is_no_head (token.Symbol symbol.Lt) is = refl
is_no_head (token.Symbol symbol.Le) is = refl
is_no_head (token.Symbol symbol.Gt) is = refl
is_no_head (token.Symbol symbol.Ge) is = refl
is_no_head (token.Symbol symbol.Plus) is = refl

-- tokens with one of the three words in front break rule 5 in other scripts
pub command_of-live : (ts : List Token) → begins_live ts ≡ true → command_of ts ≡ Err 5
unfolding command_of
command_of-live [] is = absurd (cc is)
command_of-live (t ∷ ts) is = rw (is_no_head t is) refl

-- and all other tokens are what they are there
pub live_command_of-others : (ts : List Token) → begins_live ts ≡ false → live_command_of ts ≡ (command_of ts >>= as_plain)
unfolding live_command_of
live_command_of-others ts is = rw is refl

-- each line is read as in other scripts, but for those with one of the three words in front
pub keeps_lines : KeepsLines
keeps_lines = record {
  others = λ line is. others (lexed line) is;
  three = λ line is. three (lexed line) is;
}
  where
    others : (o : Result (List Token) ℕ) → is_live o ≡ false → (o >>= live_command_of) ≡ ((o >>= command_of) >>= as_plain)
    others (Err rule) is = refl
    others (Ok ts) is = live_command_of-others ts is

    three : (o : Result (List Token) ℕ) → is_live o ≡ true → (o >>= command_of) ≡ Err 5
    three (Err rule) is = absurd (cc is)
    three (Ok ts) is = command_of-live ts is

-- What is read as a command of every script is that there.

plain_by : (o : Result Command ℕ) (c : Command) → (o >>= as_plain) ≡ Ok (live_command.Plain c) → o ≡ Ok c
plain_by (Err rule) c is = absurd (cc is)
plain_by (Ok d) c is = cc

abbrev opened : (SiteName × List Token) → Result (LiveCommand × List Token) ℕ
opened x = Ok (live_command.Open x.0, x.1)

abbrev closed : (LiveCommand × List Token) → Result LiveCommand ℕ
closed x = ended x.0 x.1

open_is_not_plain : (o : Result (SiteName × List Token) ℕ) (c : Command) → ((o >>= opened) >>= closed) ≡ Ok (live_command.Plain c) → ⊥
open_is_not_plain (Err rule) c is = cc is
open_is_not_plain (Ok (s, [])) c is = cc is
open_is_not_plain (Ok (s, t ∷ ts)) c is = cc is

form_is_not_plain : (h : LiveHead) (ts : List Token) (c : Command) → whole (live_row_of h) ts ≡ Ok (live_command.Plain c) → ⊥
form_is_not_plain head.Open ts c is = open_is_not_plain (site ts) c is
form_is_not_plain head.Session [] c is = cc is
form_is_not_plain head.Session (t ∷ ts) c is = cc is
form_is_not_plain head.End [] c is = cc is
form_is_not_plain head.End (t ∷ ts) c is = cc is

row_is_not_plain : (ts : List Token) (c : Command) → whole live_row ts ≡ Ok (live_command.Plain c) → ⊥
row_is_not_plain ts c is = go (choice live_heads ts) is
  where
    go : (o : Result (LiveHead × List Token) ℕ) → ((o >>= λ h. live_row_of h.0 h.1) >>= closed) ≡ Ok (live_command.Plain c) → ⊥
    go (Err rule) is = cc is
    go (Ok h) is = form_is_not_plain h.0 h.1 c is

tokens_there : (ts : List Token) (c : Command) → live_command_of ts ≡ Ok (live_command.Plain c) → command_of ts ≡ Ok c
unfolding live_command_of
tokens_there ts c is = go (begins_live ts) is
  where
    go : (b : Bool) → (if b then whole live_row ts else (command_of ts >>= as_plain)) ≡ Ok (live_command.Plain c) → command_of ts ≡ Ok c
    go true is = absurd (row_is_not_plain ts c is)
    go false is = plain_by (command_of ts) c is

tokens_here : (ts : List Token) (c : Command) → command_of ts ≡ Ok c → live_command_of ts ≡ Ok (live_command.Plain c)
tokens_here ts c is = go (begins_live ts) refl
  where
    go : (b : Bool) → begins_live ts ≡ b → live_command_of ts ≡ Ok (live_command.Plain c)
    go true live = let breaks : command_of ts ≡ Err 5 = command_of-live ts live in absurd (cc)
    go false other = rw (live_command_of-others ts other, is) refl

-- a line is read as a command of every script exactly where other scripts read it as that command
pub keeps_commands : KeepsCommands
keeps_commands line c = (there (lexed line), here (lexed line))
  where
    there : (o : Result (List Token) ℕ) → (o >>= live_command_of) ≡ Ok (live_command.Plain c) → (o >>= command_of) ≡ Ok c
    there (Err rule) is = absurd (cc is)
    there (Ok ts) is = tokens_there ts c is

    here : (o : Result (List Token) ℕ) → (o >>= command_of) ≡ Ok c → (o >>= live_command_of) ≡ Ok (live_command.Plain c)
    here (Err rule) is = absurd (cc is)
    here (Ok ts) is = tokens_here ts c is

-- what a command is written as is read again
pub live_reads_again : (c : LiveCommand) → IsLiveWellFormed c → live_command_of (live_spelled c) ≡ Ok c
unfolding one live_command_of
live_reads_again (live_command.Plain c) formed = tokens_here (spelled c) c (reads_again c formed)
live_reads_again (live_command.Open name) formed = rw formed refl
live_reads_again live_command.Session formed = refl
live_reads_again live_command.End formed = refl
