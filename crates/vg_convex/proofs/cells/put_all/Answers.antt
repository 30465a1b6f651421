use Rattle.std.proofs.Common.{ℕ, [], ◌∷◌, ◌++◌, get_or, take, ap, ◌∙◌, arith, pos, Option, rules, to_z, of_z}
use Rattle.std.specs.Int.{w128}
use mir.Val.{SFits}
use Rattle.std.proofs.lemmas.Int.{to_z-of_z}
use Rattle.std.proofs.lemmas.List.{length-take-le}
use Rattle.sol_arena.specs.Arenas.{slots_of, made_of}
use Rattle.sol_arena.specs.declared.slot.Made.TheVariants.{Cell}
use Rattle.cand_pool.specs.Candidates.{Candidate}
use Rattle.cand_pool.proofs.PublicLaws.{held_named}
use Rattle.vg_convex.specs.Lists.{IsWithCell}
use Rattle.vg_convex.specs.declared.work.Made.{Made as Result}
use Rattle.vg_convex.proofs.Adds.{added_none, same_meaning, added_one, cells_one, zip_length}
use Rattle.vg_convex.proofs.cells.put_all.Goals as goal

abbrev result0 : Result
result0 = record { pair = record { q = pos 0; c = 0 }; rep = 0; tag = 0 }

pub results-init : goal.results-init
results-init c = ([], added_none c.args.pool.now (slots_of c.args.arena.now) c.args.list.now c.requires.list, tt)

pub cell-requires-clause-apart : goal.cell-requires-clause-apart
cell-requires-clause-apart c =
    let (zs, added, all) = c.results.invariant in
    let live = c.requires.live c.results.made-index result0 c.results-test.true in
    ap (λ (f : ℕ → Option ℕ). f c.args.node) (same_meaning c.args.arena.now c.results.arena added.solutions (get_or c.args.results.now c.results.made-index result0).tag live)
    ∙ c.requires.bare c.results.made-index result0 c.results-test.true

pub push-requires-clause-live : goal.push-requires-clause-live
push-requires-clause-live c =
    let (zs, added, all) = c.results.invariant in
    held_named c.results.pool c.results.list.ends.first c.results.list.ends.last zs added.held

pub push-requires-clause-room : goal.push-requires-clause-room
push-requires-clause-room c =
    let (zs, added, all) = c.results.invariant in
    let n = zip_length (IsWithCell (made_of c.args.arena.now) (made_of c.results.arena) c.args.node) (take c.results.made-index c.args.results.now) zs all in
    omega (arith, n, length-take-le c.results.made-index c.args.results.now (omega (arith, c.results-test.true)), added.room, c.requires.room, c.results-test.true)

pub results-preserved : goal.results-preserved
results-preserved c =
    let (zs, added, all) = c.results.invariant in
    let live = c.requires.live c.results.made-index result0 c.results-test.true in
    let fits : SFits w128 (get_or c.args.results.now c.results.made-index result0).pair.q = search rules in
    let z : Candidate = record {
      q = to_z w128 (of_z w128 (get_or c.args.results.now c.results.made-index result0).pair.q);
      c = (get_or c.args.results.now c.results.made-index result0).pair.c;
      tag = c.in_ok-sol.sol.0;
    } in (
      zs ++ z ∷ [],
      added_one c.args.pool.now c.results.pool c.push.new.self (slots_of c.args.arena.now) (slots_of c.results.arena) (slots_of c.cell.new.self) c.results.list c.push.new.list
          zs z (Cell c.args.node (get_or c.args.results.now c.results.made-index result0).rep (get_or c.args.results.now c.results.made-index result0).tag) added c.in_ok-sol.ensures.new
          c.push.ensures.list c.push.ensures.others c.push.ensures.spare,
      cells_one c.args.arena.now c.results.arena (slots_of c.cell.new.self) c.args.node c.results.made-index c.args.results.now result0 zs z c.results-test.true all added.solutions live
          c.in_ok-sol.ensures.new (ap (λ q. record { q = q; c = (get_or c.args.results.now c.results.made-index result0).pair.c })
          (to_z-of_z w128 (get_or c.args.results.now c.results.made-index result0).pair.q fits)),
    )
