use Rattle.tests_engine.proofs.ReadyLaws.{can_meet, bare_both, met_held}
use Rattle.tests_engine.proofs.branches.met.Goals as goal

pub merge-requires-clause-meet : goal.merge-requires-clause-meet
merge-requires-clause-meet g c = can_meet c.args.arena.now _ c.args.a c.args.b c.requires.a c.requires.b

pub end_list-requires-clause-held : goal.end_list-requires-clause-held
end_list-requires-clause-held g c =
    met_held _ _ _ _ (bare_both _ c.args.a c.args.b c.requires.a c.requires.b) (c.in_ok-list.ensures.uses _ _ c.requires.a.live c.requires.b.live)
