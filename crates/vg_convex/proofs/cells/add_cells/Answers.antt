use Rattle.std.proofs.Common.{◌≡◌, Bool, List, [], length, None, sym, ap, ◌∙◌, subst, arith}
use Rattle.std.specs.List.{All}
use Rattle.elmore.specs.Pairs.{IsUndominated}
use Rattle.sol_arena.specs.Arenas.{slots_of, made_of}
use Rattle.sol_arena.specs.Meanings.{cells_of}
use Rattle.sol_arena.specs.Slots.{IsLive as IsLiveSolution}
use Rattle.cand_pool.specs.Candidates.{Candidates}
use Rattle.cand_pool.specs.Pools.{items_of}
use Rattle.cand_pool.proofs.PublicLaws.{held_items, held_named}
use Rattle.cand_uses.specs.Pairs.{pairs_of}
use Rattle.cand_uses.specs.Uses.{IsExchange}
use Rattle.elmore.specs.declared.allowed.Allowed.{Allowed as AllowedSpec}
use Rattle.vg_convex.specs.Answers.{HaveFound, found_by, made_pairs, AreSwept}
use Rattle.vg_convex.specs.Lists.{IsMade, IsWithCell}
use Rattle.vg_convex.proofs.Adds.{added_exchange, zip_length}
use Rattle.vg_convex.proofs.Results.{IsAttainedBy, answers_by, tags_of, made_undominated, pairs_same, all_attained, none_attained, swept_as}
use Rattle.vg_convex.specs.Orders.{AreByInput, IsPinOf, reps_of_pins}
use Rattle.vg_convex.specs.declared.shelf.Pin.{Pin}
use Rattle.vg_convex.proofs.Shelves.{inputs_length}
use Rattle.vg_convex.proofs.cells.add_cells.Goals as goal

pub sweep-requires-clause-pins : goal.sweep-requires-clause-pins
sweep-requires-clause-pins c = subst (All (IsPinOf c.args.reps.now)) (sym c.deref.ensures.value) c.requires.shelf.pins

pub sweep-requires-clause-by_input : goal.sweep-requires-clause-by_input
sweep-requires-clause-by_input c = subst (λ (l : List Pin). AreByInput c.args.reps.now (reps_of_pins l)) (sym c.deref.ensures.value) c.requires.shelf.by_input

swept_before : (c : goal.After-deref-4)
    → AreSwept c.args.reps.now (found_by c.args.reps.now c.args.buffers.now.found.items c.args.inverters.now.found.items) (reps_of_pins c.args.shelf.now.inputs.items) c.deref-4.result.now
swept_before c =
    swept_as c.args.reps.now c.deref-2.result.now c.args.buffers.now.found.items c.deref-3.result.now c.args.inverters.now.found.items
    c.deref.result.now c.args.shelf.now.inputs.items c.sweep.new.kept.items c.deref-4.result.now
    c.deref-2.ensures.value c.deref-3.ensures.value c.deref.ensures.value c.deref-4.ensures.value c.in_ok-sweep.ensures

pub list_of-requires-clause-room : goal.list_of-requires-clause-room
list_of-requires-clause-room c = omega (arith, (swept_before c).few, inputs_length c.args.reps.now c.args.shelf.now c.requires.shelf, c.requires.room)

pub list_of-requires-clause-live : goal.list_of-requires-clause-live
list_of-requires-clause-live c =
    let (allowed, lists, found, bare) = c.requires.found in
    tags_of c.args.reps.now (reps_of_pins c.args.shelf.now.inputs.items) c.requires.shelf.inputs allowed lists
    (found_by c.args.reps.now c.args.buffers.now.found.items c.args.inverters.now.found.items)
    (answers_by c.args.reps.now allowed lists c.args.buffers.now c.args.inverters.now found)
    (IsLiveSolution (made_of c.args.arena.now)) c.deref-4.result.now (swept_before c).results (λ inverts. (bare inverts).live)

pub list_of-requires-clause-bare : goal.list_of-requires-clause-bare
list_of-requires-clause-bare c =
    let (allowed, lists, found, bare) = c.requires.found in
    tags_of c.args.reps.now (reps_of_pins c.args.shelf.now.inputs.items) c.requires.shelf.inputs allowed lists
    (found_by c.args.reps.now c.args.buffers.now.found.items c.args.inverters.now.found.items)
    (answers_by c.args.reps.now allowed lists c.args.buffers.now c.args.inverters.now found)
    (λ s. cells_of (made_of c.args.arena.now) s c.args.node ≡ None) c.deref-4.result.now (swept_before c).results (λ inverts. (bare inverts).bare)

swept_after : (c : goal.In_ok-list)
    → AreSwept c.args.reps.now (found_by c.args.reps.now c.args.buffers.now.found.items c.args.inverters.now.found.items) (reps_of_pins c.args.shelf.now.inputs.items) c.deref-4.result.now
swept_after c =
    swept_as c.args.reps.now c.deref-2.result.now c.args.buffers.now.found.items c.deref-3.result.now c.args.inverters.now.found.items
    c.deref.result.now c.args.shelf.now.inputs.items c.sweep.new.kept.items c.deref-4.result.now
    c.deref-2.ensures.value c.deref-3.ensures.value c.deref.ensures.value c.deref-4.ensures.value c.in_ok-sweep.ensures

-- the candidates of the answer
answer : (c : goal.In_ok-list) → items_of c.list_of.new.pool c.in_ok-list.list ≡ c.in_ok-list.ensures.added.0
answer c =
    let (zs, added, cells) = c.in_ok-list.ensures.added in
    held_items c.list_of.new.pool c.in_ok-list.list.ends.first c.in_ok-list.list.ends.last zs added.held

pub returns-clause-list : goal.returns-clause-list
returns-clause-list c =
    let (zs, added, cells) = c.in_ok-list.ensures.added in
    held_named c.list_of.new.pool c.in_ok-list.list.ends.first c.in_ok-list.list.ends.last zs added.held

pub returns-clause-undominated : goal.returns-clause-undominated
returns-clause-undominated c = λ allowed lists found.
    let (zs, added, cells) = c.in_ok-list.ensures.added in
    subst (λ l. IsUndominated (IsMade c.args.reps.now allowed lists) (pairs_of l)) (sym (answer c))
    (subst (IsUndominated (IsMade c.args.reps.now allowed lists))
    (pairs_same (made_of c.args.arena.now) (made_of c.list_of.new.arena) c.args.node c.deref-4.result.now zs cells)
    (made_undominated c.args.reps.now (reps_of_pins c.args.shelf.now.inputs.items) c.requires.shelf.inputs allowed lists
    (found_by c.args.reps.now c.args.buffers.now.found.items c.args.inverters.now.found.items)
    (answers_by c.args.reps.now allowed lists c.args.buffers.now c.args.inverters.now found)
    (made_pairs c.deref-4.result.now) (swept_after c).undominated))

attained : (c : goal.In_ok-list) (allowed : AllowedSpec) (lists : Bool → Candidates) → HaveFound allowed c.args.reps.now lists c.args.buffers.now c.args.inverters.now
    → All (IsAttainedBy c.args.reps.now allowed lists (made_of c.args.arena.now) (made_of c.list_of.new.arena) c.args.node) c.in_ok-list.ensures.added.0
attained c allowed lists found =
    let (zs, added, cells) = c.in_ok-list.ensures.added in
    all_attained c.args.reps.now (reps_of_pins c.args.shelf.now.inputs.items) c.requires.shelf.inputs allowed lists
    (found_by c.args.reps.now c.args.buffers.now.found.items c.args.inverters.now.found.items)
    (answers_by c.args.reps.now allowed lists c.args.buffers.now c.args.inverters.now found)
    (made_of c.args.arena.now) (made_of c.list_of.new.arena) c.args.node c.deref-4.result.now zs (swept_after c).results cells

pub returns-clause-attained : goal.returns-clause-attained
returns-clause-attained c = λ allowed lists found.
    subst (All (IsAttainedBy c.args.reps.now allowed lists (made_of c.args.arena.now) (made_of c.list_of.new.arena) c.args.node)) (sym (answer c)) (attained c allowed lists found)

pub returns-clause-empty : goal.returns-clause-empty
returns-clause-empty c = λ allowed found.
    let (zs, added, cells) = c.in_ok-list.ensures.added in
    answer c
    ∙ none_attained c.args.reps.now allowed (made_of c.args.arena.now) (made_of c.list_of.new.arena) c.args.node zs (attained c allowed (λ _. []) found)

pub returns-clause-few : goal.returns-clause-few
returns-clause-few c =
    let (zs, added, cells) = c.in_ok-list.ensures.added in
    omega (
      arith,
      ap (λ (l : Candidates). length l) (answer c),
      zip_length (IsWithCell (made_of c.args.arena.now) (made_of c.list_of.new.arena) c.args.node) c.deref-4.result.now zs cells,
      (swept_after c).few,
      inputs_length c.args.reps.now c.args.shelf.now c.requires.shelf,
    )

pub returns-clause-uses : goal.returns-clause-uses
returns-clause-uses c =
    let (zs, added, cells) = c.in_ok-list.ensures.added in
    subst (λ l. IsExchange (slots_of c.args.arena.now) [] (slots_of c.list_of.new.arena) l) (sym (answer c))
    (added_exchange c.args.arena.now c.list_of.new.arena zs added.uses added.solutions)

pub returns-clause-spare : goal.returns-clause-spare
returns-clause-spare c =
    let (zs, added, cells) = c.in_ok-list.ensures.added in
    omega (arith, added.room, ap (λ (l : Candidates). length l) (answer c))
