use Rattle.std.proofs.Common.{sym, ◌∙◌}
use Rattle.spef_file.proofs.CharLemmas.{delimiter_yes, delimiter_no}
use Rattle.spef_file.proofs.header_chars.with_delimiter.Goals as goal

pub returns-then-not-is_separator : goal.returns-then-not-is_separator
returns-then-not-is_separator c = delimiter_no c.args.chars.now c.args.byte (sym c.is_separator.ensures ∙ c.if-not-is_separator.true)

pub returns : goal.returns
returns c = delimiter_yes c.args.chars.now c.args.byte _ _ _
