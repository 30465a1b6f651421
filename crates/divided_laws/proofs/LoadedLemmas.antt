-- Loads on top at the old nodes of a divided tree.
use Rattle.std.proofs.Common.{◌≡◌, ℕ, ◌<◌, false, List, sym, ap, ◌∙◌, arith, length}
use Rattle.elmore.specs.Trees.{IsTree, parent_of}
use Rattle.elmore.specs.declared.tree.Node.{Node}
use Rattle.divided_laws.specs.DividedTrees.{Chains, is_old, IsDivided, IsLoadedBy}

loaded_tree : (load : ℕ → ℕ) (tree loaded : List Node) → IsLoadedBy load tree loaded → IsTree tree → IsTree loaded
loaded_tree load tree loaded l g = record {
  some_node = omega (arith, l.count, g.some_node);
  root = l.parents 0 g.some_node ∙ g.root;
  bare_root = l.resistances 0 g.some_node ∙ g.bare_root;
  smaller = λ v v_0 v_n.
      let inside : v < length tree = omega (arith, v_n, l.count) in
      omega (arith, l.parents v inside, g.smaller v v_0 inside);
}

pub loaded_divided : (old new loaded new_loaded : List Node) (t : Chains) (load more : ℕ → ℕ) → IsDivided old new t
    → IsLoadedBy load old loaded → IsLoadedBy more new new_loaded
    → ((u : ℕ) → u < length old → more (t.at u) ≡ load u)
    → ((x : ℕ) → x < length new → is_old t x ≡ false → more x ≡ 0)
    → IsDivided loaded new_loaded t
loaded_divided old new loaded new_loaded t load more d a b same none = record {
  old_tree = loaded_tree load old loaded a d.old_tree;
  new_tree = loaded_tree more new new_loaded b d.new_tree;
  root = d.root;
  within = λ u u_n. omega (arith, d.within u (few u u_n), b.count);
  owned = λ u u_n. d.owned u (few u u_n);
  owners = λ x x_m. omega (arith, d.owners x (many x x_m), a.count);
  capacitances = λ u u_n.
      omega (
        arith,
        b.capacitances (t.at u) (d.within u (few u u_n)),
        a.capacitances u (few u u_n),
        d.capacitances u (few u u_n),
        same u (few u u_n),
      );
  bare = λ x x_m is.
      omega (arith, b.capacitances x (many x x_m), d.bare x (many x x_m) is, none x (many x x_m) is);
  from_old = λ x x_0 x_m is.
      let up : parent_of new_loaded x ≡ parent_of new x = b.parents x (many x x_m) in
      ap t.owner up ∙ d.from_old x x_0 (many x x_m) (sym (ap (is_old t) up) ∙ is)
      ∙ sym (a.parents (t.owner x) (d.owners x (many x x_m)));
  from_new = λ x x_0 x_m is.
      let up : parent_of new_loaded x ≡ parent_of new x = b.parents x (many x x_m) in
      ap t.owner up ∙ d.from_new x x_0 (many x x_m) (sym (ap (is_old t) up) ∙ is);
  goes_on = λ x x_m is. omega (arith, d.goes_on x (many x x_m) is, b.count);
  next = λ x x_m is. b.parents (t.below x) (d.goes_on x (many x x_m) is) ∙ d.next x (many x x_m) is;
  only = λ x w x_m is w_m up w_x.
      d.only x w (many x x_m) is (many w w_m) (sym (b.parents w (many w w_m)) ∙ up) w_x;
  begins = λ x x_0 x_m is.
      d.begins x x_0 (many x x_m) (sym (ap (is_old t) (b.parents x (many x x_m))) ∙ is)
      ∙ sym (b.resistances x (many x x_m));
  adds = λ x x_0 x_m is.
      let up : parent_of new_loaded x ≡ parent_of new x = b.parents x (many x x_m) in
      omega (
        arith,
        d.adds x x_0 (many x x_m) (sym (ap (is_old t) up) ∙ is),
        b.resistances x (many x x_m),
        ap t.so_far up,
      );
  all = λ u u_0 u_n. d.all u u_0 (few u u_n) ∙ sym (a.resistances u (few u u_n));
}
  where
    few : (u : ℕ) → u < length loaded → u < length old
    few u u_n = omega (arith, u_n, a.count)

    many : (x : ℕ) → x < length new_loaded → x < length new
    many x x_m = omega (arith, x_m, b.count)
