use Rattle.std.proofs.Common.{◌≡◌, None, [], flat_map, inr, sym, ◌∙◌}
use Rattle.lib_cells.specs.Cells.{cell_groups}
use Rattle.lib_cells.specs.FirstFlaws.{first_of}
use Rattle.lib_cells.specs.Flaws.{cell_flaws, twice_flaws, value_flaws}
use Rattle.lib_cells.proofs.NameLemmas.{all_new, no_part}
use Rattle.lib_cells.proofs.OrderLemmas.{first_flaw, no_flaw}
use Rattle.lib_cells.proofs.FlawLemmas.{both_parts}
use Rattle.lib_cells.proofs.check.check_cells.Goals as goal

total : (c : goal.In-None) → c.first_in_cells.result ≡ first_of c.args.bytes.now None (value_flaws c.args.units c.args.library.now)
total c =
    both_parts c.args.bytes.now c.in-Ok.first c.first_in_cells.result (twice_flaws [] (cell_groups c.args.library.now))
    (flat_map (cell_flaws c.args.units) (cell_groups c.args.library.now)) c.in-Ok.ensures.first c.first_in_cells.ensures

sound : (c : goal.In-None) → value_flaws c.args.units c.args.library.now ≡ []
sound c = no_flaw c.args.bytes.now (value_flaws c.args.units c.args.library.now) (sym (total c) ∙ c.in-None.is)

pub returns-in-None-clause-names : goal.returns-in-None-clause-names
returns-in-None-clause-names c =
    c.in-Ok.ensures.names
    ∙ all_new [] (cell_groups c.args.library.now)
    (no_part (twice_flaws [] (cell_groups c.args.library.now)) (flat_map (cell_flaws c.args.units) (cell_groups c.args.library.now)) (sound c))

pub returns-in-None-clause-sound : goal.returns-in-None-clause-sound
returns-in-None-clause-sound c = sound c

pub returns-in-Some-clause-fault : goal.returns-in-Some-clause-fault
returns-in-Some-clause-fault c =
    let flaws = value_flaws c.args.units c.args.library.now in
    let e : c.first_in_cells.result ≡ first_of c.args.bytes.now None flaws =
    both_parts c.args.bytes.now c.in-Ok.first c.first_in_cells.result (twice_flaws [] (cell_groups c.args.library.now))
    (flat_map (cell_flaws c.args.units) (cell_groups c.args.library.now)) c.in-Ok.ensures.first c.first_in_cells.ensures in
    inr (rw c.to_fault.ensures (first_flaw c.args.bytes.now flaws c.in-Some.flaw (sym e ∙ c.in-Some.is)))
