use Rattle.std.proofs.Common.{arith}
use Rattle.sol_arena.specs.Uses.{held_of}
use Rattle.sol_arena.specs.Arenas.{slots_of}
use Rattle.sol_arena.proofs.ReachLemmas.{frames, new_frame, release_frame, restored}
use Rattle.tests_engine.proofs.arena.there_and_back.Goals as goal

pub returns : goal.returns
returns c =
    let made = c.in_ok-sol.ensures.new in
    let held = held_of (slots_of c.args.arena.now) in
    restored c.args.arena.now c.release.new.self (λ t some. omega (arith, made.held t some, c.release.ensures.held t some))
    (frames held _ _ _
    (new_frame c.args.arena.now c.cell.new.self held _ _ (λ t some. omega arith) made)
    (release_frame c.cell.new.self c.release.new.self held _ (λ t some. omega (arith, made.held t some, c.release.ensures.held t some)) c.release.ensures))
