use Rattle.std.proofs.Common.{◌≢◌, []}
use Rattle.std.proofs.lemmas.List.Elements.{All-nil}
use Rattle.script_drive.specs.Lines.{newline}
use Rattle.script_drive.proofs.LineLemmas.{joined_lines-whole_lines, parts}
use Rattle.script_drive.proofs.laws.lines_join_to_the_bytes.Goals as goal

pub returns : goal.returns
returns c bytes =
    let p = parts [] bytes (All-nil (λ byte. byte ≢ newline)) in record {
      all = joined_lines-whole_lines [] bytes;
      lines = p.lines;
      rest = p.rest;
    }
