use Rattle.std.proofs.Common.{ℕ, ◌+◌, length, sym, subst, arith}
use Rattle.rc_tree.specs.Search.{root_of, IsScan}
use Rattle.rc_tree.proofs.JoinLemmas.{search_end, places_few}
use Rattle.rc_tree.proofs.search.search.Goals as goal

pub scan-requires-clause-low : goal.scan-requires-clause-low
scan-requires-clause-low c = omega (arith, places_few c.args.n c.places.reached.places.items c.places.reached.ranks.items c.places.invariant.marks)

pub places-smaller : goal.places-smaller
places-smaller c = omega (arith, places_few c.args.n c.places.reached.places.items c.places.reached.ranks.items c.places.invariant.marks)

pub returns : goal.returns
returns c = search_end c.args.n c.args.root c.args.edges.now c.places.reached.places.items c.places.reached.ranks.items c.places.p c.places.invariant (omega arith)

pub scan-requires-clause-before : goal.scan-requires-clause-before
scan-requires-clause-before c =
    subst (λ (n : ℕ). IsScan n (root_of c.places.reached.places.items) c.args.edges.now c.places.reached.places.items c.places.reached.ranks.items c.places.p 0) (sym c.places.invariant.marks.nodes)
    (subst (λ (root : ℕ). IsScan c.args.n root c.args.edges.now c.places.reached.places.items c.places.reached.ranks.items c.places.p 0) (sym c.places.invariant.reached.begins) c.places.invariant)

pub places-preserved : goal.places-preserved
places-preserved c =
    subst (λ (n : ℕ). IsScan n c.args.root c.args.edges.now c.scan.new.reached.places.items c.scan.new.reached.ranks.items (c.places.p + 1) 0) c.places.invariant.marks.nodes
    (subst (λ (root : ℕ). IsScan (length c.places.reached.ranks.items) root c.args.edges.now c.scan.new.reached.places.items c.scan.new.reached.ranks.items (c.places.p + 1) 0) c.places.invariant.reached.begins c.in_ok-scan.ensures)
