-- The table is held against the definition at each of the 256 bytes, by computing.
use Rattle.std.proofs.Common.{not, nat_eq, get_or, refl, arith}
use Rattle.std.proofs.lemmas.Bool.{agree_below_at}
use Rattle.ver_text.specs.declared.class.TheConstants.{WORD_BYTES}
use Rattle.ver_text.specs.Bytes.{is_word_byte}
use Rattle.ver_text.proofs.class.is_word_byte.Goals as goal

pub returns : goal.returns
returns c = agree_below_at (λ b. not (nat_eq (get_or WORD_BYTES b 0) 46)) is_word_byte 256 c.args.byte refl (omega arith)
