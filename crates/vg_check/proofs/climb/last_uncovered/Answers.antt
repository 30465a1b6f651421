use Rattle.std.proofs.Common.{◌≡◌, ◌+◌, [], ◌∷◌, ◌++◌, length, ap, ◌∙◌, arith, rules, sym, subst}
use Rattle.std.proofs.lemmas.Bool.{false≢true}
use Rattle.cand_pairs.specs.Candidates.{IsCoveredAt, IsLive, of_lists}
use Rattle.vg_cert.specs.Fits.{lists_in}
use Rattle.vg_check.specs.Parts.{AreCoveredFrom, AreParts}
use Rattle.vg_check.proofs.ClimbLemmas.{longer, none_covered, not_covered, one_covered}
use Rattle.vg_check.proofs.climb.last_uncovered.Goals as goal

pub nodes-init : goal.nodes-init
nodes-init c = record {
  within = omega (arith, c.in_ok-parts.ensures.count);
  parts = subst (λ k. AreParts c.args.p.now (lists_in c.args.lists.now) k c.in_ok-parts.parts.items) (sym c.in_ok-parts.ensures.count)
      (c.in_ok-parts.ensures.parts (lists_in c.args.lists.now));
  covered = none_covered c.args.p.now (lists_in c.args.lists.now) (length c.in_ok-parts.parts.items) c.in_ok-parts.ensures.count;
}

pub nodes-preserved : goal.nodes-preserved
nodes-preserved c =
    let p = c.args.p.now in
    let lists = lists_in c.args.lists.now in
    let rest = c.pop.new.self.items in
    let items : c.nodes.parts.items ≡ rest ++ c.in-Some.part ∷ [] = c.in-Some.ensures.items in
    let long : length c.nodes.parts.items ≡ length rest + 1 = longer p lists c.nodes.parts.items rest c.in-Some.part items c.nodes.invariant.parts in
    let number : c.len-node.result ≡ length rest = search rules in
    let here : IsLive p (length rest) → IsCoveredAt p (of_lists lists) (length rest)
    = subst (λ k. IsLive p k → IsCoveredAt p (of_lists lists) k) number (c.in_ok-is_covered.ensures.0 c.if-not-branch.false) in
    record {
      within = omega (arith, c.in_ok-come_in.ensures.count, long, c.nodes.invariant.within);
      parts = subst (λ k. AreParts p lists k c.come_in.new.parts.items) (sym c.in_ok-come_in.ensures.count) c.in_ok-come_in.ensures.parts;
      covered = subst (λ k. AreCoveredFrom p lists k) (sym c.in_ok-come_in.ensures.count)
          (one_covered p lists (length rest) here (subst (λ k. AreCoveredFrom p lists k) long c.nodes.invariant.covered));
    }

pub returns-then-not-branch : goal.returns-then-not-branch
returns-then-not-branch c =
    let p = c.args.p.now in
    let lists = lists_in c.args.lists.now in
    let rest = c.pop.new.self.items in
    let items : c.nodes.parts.items ≡ rest ++ c.in-Some.part ∷ [] = c.in-Some.ensures.items in
    let long : length c.nodes.parts.items ≡ length rest + 1 = longer p lists c.nodes.parts.items rest c.in-Some.part items c.nodes.invariant.parts in
    let number : c.len-node.result ≡ length rest = search rules in
    not_covered p lists c.len-node.result (λ covered. false≢true (sym c.if-not-branch.true ∙ c.in_ok-is_covered.ensures.1 covered))
    (subst (λ k. AreCoveredFrom p lists k) (long ∙ ap (λ k. k + 1) (sym number)) c.nodes.invariant.covered)
