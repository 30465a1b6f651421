use Rattle.std.proofs.Common.{get_or, subst, inl, inr}
use Rattle.std.proofs.lemmas.List.Elements.{Contains-get_or}
use Rattle.vg_front.specs.Desks.{all_in}
use Rattle.vg_front.specs.Offers.{IsPartOf, With}
use Rattle.vg_front.specs.declared.offer.Offer.{Offer}
use Rattle.vg_front.specs.declared.offer.Origin.TheVariants.{Join}
use Rattle.vg_front.proofs.ListLemmas.{any_default}
use Rattle.vg_front.proofs.MeetLemmas.{meeting_begins, meeting_on, meeting_ends}
use Rattle.vg_front.proofs.meet.meet_runs.Goals as goal

pub pairs-init : goal.pairs-init
pairs-init c = record { meeting = meeting_begins c.args.xs.now c.args.ys.now (all_in c.args.desk.now); reached = c.requires.reached }

pub met-offer-requires-clause-first : goal.met-offer-requires-clause-first
met-offer-requires-clause-first c =
    c.requires.bounded_first (get_or c.args.xs.now c.pairs.i _) (Contains-get_or c.args.xs.now c.pairs.i _ c.pairs-test.true)

pub met-offer-requires-clause-second : goal.met-offer-requires-clause-second
met-offer-requires-clause-second c = c.requires.bounded_second (get_or c.args.ys.now c.pairs.j _) (Contains-get_or c.args.ys.now c.pairs.j _ c.if-j-ys.true)

pub returns-else-j-ys-clause-met : goal.returns-else-j-ys-clause-met
returns-else-j-ys-clause-met c =
    meeting_ends c.args.xs.now c.args.ys.now c.pairs.i c.pairs.j (all_in c.args.desk.now) (all_in c.pairs.desk) c.pairs.invariant.meeting
    (inr c.if-j-ys.false)

pub returns-after-pairs-clause-met : goal.returns-after-pairs-clause-met
returns-after-pairs-clause-met c =
    meeting_ends c.args.xs.now c.args.ys.now c.pairs.i c.pairs.j (all_in c.args.desk.now) (all_in c.pairs.desk) c.pairs.invariant.meeting
    (inl c.pairs-test.false)

pub pairs-preserved : goal.pairs-preserved
pairs-preserved c =
    let x = get_or c.args.xs.now c.pairs.i _ in
    let y = get_or c.args.ys.now c.pairs.j _ in
    record {
      meeting =
          meeting_on c.args.xs.now c.args.ys.now c.pairs.i c.pairs.j (all_in c.args.desk.now) (all_in c.pairs.desk) (all_in c.propose.new.self) x y
          c.requires.first
          c.requires.second
          c.pairs.invariant.meeting c.pairs-test.true c.if-j-ys.true
          (any_default c.args.xs.now c.pairs.i x _ c.pairs-test.true) (any_default c.args.ys.now c.pairs.j y _ c.if-j-ys.true)
          (subst (λ (o : Offer). IsPartOf (With (all_in c.pairs.desk) (record { offer = o; origin = Join x.sol y.sol })) (all_in c.propose.new.self))
          c.met-offer.ensures
          c.in_ok-propose.ensures.put)
          c.advance.new.i c.advance.new.j c.advance.ensures;
      reached = c.in_ok-propose.ensures.reached;
    }
