-- The command of the tokens is the line's.
use Rattle.script_parse.specs.Parsed.{command_of}
use Rattle.script_parse.proofs.ParsedLines.{line_gives}
use Rattle.script_parse.proofs.line_parser.LineParser.parse_line.Goals as goal

pub returns-clause-read : goal.returns-clause-read
returns-clause-read c = line_gives command_of c.args.line.now c.of.result c.command_of.result (rw (c.of.ensures, c.deref.ensures.value) c.in_ok-spans.ensures.read) c.command_of.ensures.read
