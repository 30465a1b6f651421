use Rattle.std.proofs.Common.{leb, cond, refl}
use Rattle.std.proofs.lemmas.Simd.{zip2_splat, splat_is_map, length-chunk}
use lib.Lanes.{chunk}
use Rattle.ver_text.specs.Bytes.{is_printable}
use Rattle.ver_text.proofs.LaneLemmas.{joined, itself, run_in}
use Rattle.ver_text.proofs.lanes.printable_lanes.Goals as goal

pub returns : goal.returns
returns c =
    let v = chunk c.args.at 16 c.args.text.now in
    let long = length-chunk c.args.at 16 c.args.text.now c.requires in
    run_in is_printable c.args.text.now c.args.at _ _ c.requires c.type_inv.text c.first_set.ensures _
    (joined _ _ _ v (zip2_splat _ v 16 33 long) (joined (λ a b. cond (leb a b) 255 0) _ _ v (splat_is_map v 16 127 long) (itself v))) refl
