-- The table is held against the definition at each of the 256 bytes, by computing.
use Rattle.std.proofs.Common.{not, nat_eq, get_or, refl, arith}
use Rattle.std.proofs.lemmas.Bool.{agree_below_at}
use Rattle.ver_text.specs.declared.class.TheConstants.{MARK_BYTES}
use Rattle.ver_text.specs.Bytes.{is_mark}
use Rattle.ver_text.proofs.class.is_mark.Goals as goal

pub returns : goal.returns
returns c = agree_below_at (λ b. not (nat_eq (get_or MARK_BYTES b 0) 95)) is_mark 256 c.args.byte refl (omega arith)
