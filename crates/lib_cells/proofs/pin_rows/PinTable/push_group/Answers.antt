use Rattle.std.proofs.Common.{◌≡◌, ◌+◌, ◌<◌, ◌++◌, ◌∷◌, [], ℕ, List, length, map, sym, ap, subst, ◌∙◌, arith, length-append}
use Rattle.std.specs.List.{All}
use Rattle.lib_text.specs.Groups.{names_of}
use Rattle.lib_cells.specs.PinTables.{pins_in}
use Rattle.lib_cells.proofs.PinTableLemmas.{group_pushed, numbers_pushed, sizes_pushed}
use Rattle.lib_cells.proofs.pin_rows.PinTable.push_group.Goals as goal

pub returns-clause-table : goal.returns-clause-table
returns-clause-table c =
    let old = c.args.self.now in
    let more = names_of c.args.pin.now in
    let number : c.in-Ok.number ≡ length old.groups.items = omega (arith, c.in-Ok.ensures, c.len.ensures) in
    let size : length c.push.new.self.items ≡ length old.groups.items + 1 =
    ap length c.in_ok-push.ensures.items ∙ length-append old.groups.items (c.in_ok-group.group ∷ []) in
    record {
      one_each =
          ap length c.in_ok-push_names.ensures.numbers ∙ sizes_pushed old.names more old.numbers.items c.in-Ok.number c.requires.table.one_each
          ∙ ap length (sym c.in_ok-push_names.ensures.names);
      within =
          subst (λ (n : ℕ). All (λ k. k < n) c.push_names.new.numbers.items) (sym size)
          (subst (λ (ks : List ℕ). All (λ k. k < length old.groups.items + 1) ks) (sym c.in_ok-push_names.ensures.numbers)
          (numbers_pushed (length old.groups.items) more old.numbers.items c.in-Ok.number c.requires.table.within number));
    }

pub returns-clause-pins : goal.returns-clause-pins
returns-clause-pins c =
    let old = c.args.self.now in
    let more = names_of c.args.pin.now in
    let number : c.in-Ok.number ≡ length old.groups.items = omega (arith, c.in-Ok.ensures, c.len.ensures) in
    (λ i. pins_in (c.in_ok-push.ensures.items i) (c.in_ok-push_names.ensures.names i) (c.in_ok-push_names.ensures.numbers i))
    ∙ group_pushed old.groups.items c.in_ok-group.group old.names more old.numbers.items c.in-Ok.number c.requires.table.one_each c.requires.table.within number
    ∙ (λ i. pins_in old.groups.items old.names old.numbers.items ++ map (λ name. c.in_ok-group.ensures name i) more)
