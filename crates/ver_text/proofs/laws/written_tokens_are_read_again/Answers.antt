use Rattle.ver_text.proofs.WrittenLemmas.{words_are_tokens, escaped_names_are_tokens, digits_are_tokens, marks_are_tokens, blanks_are_passed}
use Rattle.ver_text.proofs.laws.written_tokens_are_read_again.Goals as goal

pub returns-clause-words : goal.returns-clause-words
returns-clause-words c = words_are_tokens

pub returns-clause-escaped : goal.returns-clause-escaped
returns-clause-escaped c = escaped_names_are_tokens

pub returns-clause-digits : goal.returns-clause-digits
returns-clause-digits c = digits_are_tokens

pub returns-clause-marks : goal.returns-clause-marks
returns-clause-marks c = marks_are_tokens

pub returns-clause-blanks : goal.returns-clause-blanks
returns-clause-blanks c = blanks_are_passed
