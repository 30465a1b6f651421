use Rattle.std.proofs.Common.{◌<◌, ◌≤◌, ◌++◌, ◌∷◌, [], length, sym, subst, ◌∙◌, arith, List, ℕ}
use Rattle.name_tables.specs.Distinct.{with_name}
use Rattle.lib_cells.proofs.FirstPlaceLemmas.{comes_again, comes_new, no_more, one_more}
use Rattle.lib_cells.specs.PinTables.{AreFirst}
use Rattle.lib_cells.proofs.first_places.FirstPlaces.add.Goals as goal

pub returns-in_ok-push : goal.returns-in_ok-push
returns-in_ok-push c = λ names are at.
    let old = c.args.self.now in
    let more : length old.names < length (with_name old.names c.args.name.now) =
    subst (λ (ns : List (List ℕ)). length old.names < length ns) c.in_ok-add_name.ensures (omega (arith, c.if-len.true, are.one_each)) in
    comes_new names old c.args.name.now are (record { names = c.add_name.new.names; places = c.push.new.self }) c.args.place at
    (c.in_ok-add_name.ensures ∙ one_more old.names c.args.name.now more) c.in_ok-push.ensures.items

pub returns-else-len : goal.returns-else-len
returns-else-len c = λ names are at.
    let old = c.args.self.now in
    let size : length (with_name old.names c.args.name.now) ≤ length old.names =
    subst (λ (ns : List (List ℕ)). length ns ≤ length old.names) c.in_ok-add_name.ensures (omega (arith, c.if-len.false, are.one_each)) in
    let (any, same) = no_more old.names c.args.name.now size in
    subst (λ (ns : List (List ℕ)). AreFirst (names ++ c.args.name.now ∷ []) (record { names = ns; places = old.places })) (sym (c.in_ok-add_name.ensures ∙ same))
    (comes_again names old c.args.name.now are any)
