-- Which nodes have not come in: how it begins, and what one node changes.
use Rattle.std.proofs.Common.{◌≡◌, ◌≢◌, ℕ, ◌+◌, ◌-◌, ◌*◌, ◌<◌, ◌≤◌, List, length, get_or, set, sum}
use Rattle.std.proofs.Common.{refl, sym, ap, ◌∙◌, subst, arith, inl, inr}
use Rattle.std.proofs.Math.Nat.{mul-le-mul_left}
use Rattle.std.proofs.lemmas.Bool.{cases_eq}
use Rattle.std.proofs.lemmas.List.{length-set, get_or-set_same, get_or-set_other}
use Rattle.std.proofs.lemmas.List.Sums.{sum_by-set}
use Rattle.elmore.specs.Path.{Falls, is_over}
use Rattle.elmore.specs.Trees.{parent_of}
use Rattle.elmore.specs.declared.problem.Problem.{Problem}
use Rattle.elmore.proofs.PathLemmas.{upward, over_self, over_below, over_le}
use Rattle.elmore.proofs.TreeLemmas.{tree_falls}
use Rattle.vg_slack.specs.declared.waiting.Waiting.{Waiting}
use Rattle.vg_slack.specs.Waits.{last_at, before_at, IsThere, IsChildOf, IsLastBelow, AreAllWaiting, IsWaiting, IsCrossedOff, IsAtRoot}

-- CHILDREN
parent_less : (p : Problem) (v : ℕ) → v ≢ 0 → v < length p.tree.nodes → parent_of p.tree.nodes v < v
parent_less p v other v_n = p.tree.a_tree.smaller v (omega (arith, other)) v_n

child_of : (p : Problem) (v u : ℕ) → parent_of p.tree.nodes u ≡ v → u ≢ v → u < length p.tree.nodes → IsChildOf p v u
child_of p v u parent other u_n = record {
  parent = parent;
  above = subst (λ (k : ℕ). k < u) parent (parent_less p u (λ e. other (e ∙ sym p.tree.a_tree.root ∙ ap (parent_of p.tree.nodes) (sym e) ∙ parent)) u_n);
  node = u_n;
}

no_less : (p : Problem) (i v last : ℕ) → IsLastBelow p i v last → v ≤ last
no_less p i v last is = elim (cases_eq last v) [
  | inl e ↦ omega (arith, e)
  | inr other ↦ omega (arith, (is.child other).above)
]

pub less : (p : Problem) (i v last : ℕ) → v < i → IsLastBelow p i v last → last < i
less p i v last v_i is = elim (cases_eq last v) [
  | inl e ↦ omega (arith, e)
  | inr other ↦ is.below other
]

-- THE LINKS, as the nodes below i are linked
pub record AreLinkedBelow (p : Problem) (i : ℕ) (xs ys : List ℕ) : Type 0 where
  pub lasts : length xs ≡ length p.tree.nodes
  pub befores : length ys ≡ length p.tree.nodes
  pub last : (v : ℕ) → v < length p.tree.nodes → IsLastBelow p i v (get_or xs v 0)
  pub before : (v : ℕ) → 0 < v → v < i → IsLastBelow p v (parent_of p.tree.nodes v) (get_or ys v 0)

pub none_linked : (p : Problem) (last before : List ℕ) → length last ≡ length p.tree.nodes → length before ≡ length p.tree.nodes
    → ((v : ℕ) → v < length p.tree.nodes → get_or last v 0 ≡ v) → AreLinkedBelow p 1 last before
none_linked p last before lasts befores each = record {
  lasts = lasts;
  befores = befores;
  last = λ v v_n. record {
    child = λ other. absurd (other (each v v_n));
    below = λ other. absurd (other (each v v_n));
    most = λ u child low. absurd (omega (arith, child.above, low));
  };
  before = λ v some low. absurd (omega (arith, some, low));
}

-- node i is linked
module _ (p : Problem) (i : ℕ) (last before : List ℕ) (some : 0 < i) (i_n : i < length p.tree.nodes) (are : AreLinkedBelow p i last before) where
  abbrev above : ℕ
  above = parent_of p.tree.nodes i

  above_i : above < i
  above_i = p.tree.a_tree.smaller i some i_n

  last_of : (v : ℕ) → v < length p.tree.nodes → IsLastBelow p (i + 1) v (get_or (set last above i) v 0)
  last_of v v_n = elim (cases_eq v above) [
    | inl e ↦
        subst (IsLastBelow p (i + 1) v) (sym (ap (λ (k : ℕ). get_or (set last above i) k 0) e ∙ get_or-set_same last above i 0 (omega (arith, above_i, i_n, are.lasts))))
        (record {
          child = λ other. record { parent = sym e; above = omega (arith, e, above_i); node = i_n };
          below = λ other. omega arith;
          most = λ u child low. omega (arith, low);
        })
    | inr other ↦
        subst (IsLastBelow p (i + 1) v) (sym (get_or-set_other last above v i 0 other)) (record {
          child = (are.last v v_n).child;
          below = λ apart. omega (arith, (are.last v v_n).below apart);
          most = λ u child low.
              let apart : u ≢ i = λ e. other (sym child.parent ∙ ap (parent_of p.tree.nodes) e) in
              (are.last v v_n).most u child (omega (arith, low, apart));
        })
  ]

  before_of : (v : ℕ) → 0 < v → v < i + 1 → IsLastBelow p v (parent_of p.tree.nodes v) (get_or (set before i (get_or last above 0)) v 0)
  before_of v v_some low = elim (cases_eq v i) [
    | inl e ↦
        subst (λ (k : ℕ). IsLastBelow p k (parent_of p.tree.nodes k) (get_or (set before i (get_or last above 0)) k 0)) (sym e)
        (subst (IsLastBelow p i above) (sym (get_or-set_same before i (get_or last above 0) 0 (omega (arith, i_n, are.befores))))
        (are.last above (omega (arith, above_i, i_n))))
    | inr other ↦
        subst (IsLastBelow p v (parent_of p.tree.nodes v)) (sym (get_or-set_other before i v (get_or last above 0) 0 other))
        (are.before v v_some (omega (arith, low, other)))
  ]

  pub one_linked : AreLinkedBelow p (i + 1) (set last above i) (set before i (get_or last above 0))
  one_linked = record {
    lasts = length-set last above i ∙ are.lasts;
    befores = length-set before i (get_or last above 0) ∙ are.befores;
    last = last_of;
    before = before_of;
  }

pub all_linked : (p : Problem) (w : Waiting) → AreLinkedBelow p (length p.tree.nodes) w.last.items w.before.items → AreAllWaiting p w
all_linked p w are = record { linked = record { lasts = are.lasts; befores = are.befores; before = are.before }; last = are.last }

-- ALL NODES
module _ {p : Problem} {w : Waiting} (are : AreAllWaiting p w) where
  pub all_there : (v : ℕ) → v < length p.tree.nodes → IsThere p w v
  all_there v v_n = elim (cases_eq v (parent_of p.tree.nodes v)) [
    | inl e ↦ omega (arith, e, no_less p (length p.tree.nodes) (parent_of p.tree.nodes v) (last_at w (parent_of p.tree.nodes v)) last_is)
    | inr other ↦ last_is.most v (child_of p (parent_of p.tree.nodes v) v refl other v_n) v_n
  ]
    where
      last_is : IsLastBelow p (length p.tree.nodes) (parent_of p.tree.nodes v) (last_at w (parent_of p.tree.nodes v))
      last_is = are.last (parent_of p.tree.nodes v) (omega (arith, v_n, tree_falls p.tree.nodes p.tree.a_tree v))

  pub all_wait : IsWaiting p w 0
  all_wait = record {
    linked = are.linked;
    child = λ v v_n. (are.last v v_n).child;
    upper = λ v v_n _. all_there (parent_of p.tree.nodes v) (omega (arith, v_n, tree_falls p.tree.nodes p.tree.a_tree v));
    node = p.tree.a_tree.some_node;
    way = λ v over other. absurd (other (omega (arith, over_le (parent_of p.tree.nodes) (tree_falls p.tree.nodes p.tree.a_tree) v 0 over)));
  }

-- THE WAY
-- down to the last child
pub goes_down : (p : Problem) (w : Waiting) (at : ℕ) → IsWaiting p w at → last_at w at ≢ at → IsWaiting p w (last_at w at)
goes_down p w at is other = record {
  linked = is.linked;
  child = is.child;
  upper = is.upper;
  node = child.node;
  way = λ v over some. elim (cases_eq v (last_at w at)) [
    | inl e ↦ ap (λ (k : ℕ). last_at w (parent_of p.tree.nodes k)) e ∙ ap (last_at w) child.parent ∙ sym e
    | inr apart ↦ is.way v (ap (is_over (parent_of p.tree.nodes) v) (sym child.parent)
        ∙ sym (over_below (parent_of p.tree.nodes) (tree_falls p.tree.nodes p.tree.a_tree) v (last_at w at)
        (λ e. other (sym e ∙ child.parent)) (λ e. apart (sym e))) ∙ over) some
  ];
}
  where
    child : IsChildOf p at (last_at w at)
    child = is.child at is.node other

-- how many steps may be left: a node that comes in lowers the sum, and one that is gone down to has a greater number
abbrev pub left_from : Problem → Waiting → ℕ → ℕ
left_from p w at = (length p.tree.nodes + 1) * sum w.last.items + (length p.tree.nodes - at)

pub down_less : (p : Problem) (w : Waiting) (at : ℕ) → IsWaiting p w at → last_at w at ≢ at → left_from p w (last_at w at) < left_from p w at
down_less p w at is other = let child : IsChildOf p at (last_at w at) = is.child at is.node other in omega (arith, child.above, child.node)

pub in_less : (p : Problem) (w new : Waiting) (at up : ℕ) → sum new.last.items < sum w.last.items → left_from p new up < left_from p w at
in_less p w new at up lower =
    let more : sum new.last.items + 1 ≤ sum w.last.items = omega (arith, lower) in
    omega (arith, mul-le-mul_left (length p.tree.nodes + 1) more)

-- at the end all but the root came in
pub at_root : (p : Problem) (w : Waiting) → IsWaiting p w 0 → last_at w 0 ≡ 0 → IsAtRoot p w
at_root p w is whole = record { alone = alone; whole = whole }
  where
    alone : (v : ℕ) → v < length p.tree.nodes → IsThere p w v → v ≡ 0
    alone =
        upward (parent_of p.tree.nodes) (tree_falls p.tree.nodes p.tree.a_tree) (λ v. v < length p.tree.nodes → IsThere p w v → v ≡ 0)
        (λ v more v_n there. elim (cases_eq v 0) [
          | inl e ↦ e
          | inr other ↦
              let up : parent_of p.tree.nodes v < v = parent_less p v other v_n in
              let root : parent_of p.tree.nodes v ≡ 0 = more (λ e. omega (arith, e, up)) (omega (arith, up, v_n)) (is.upper v v_n there) in
              absurd (omega (arith, other, there, ap (last_at w) root, whole))
        ])

-- the parent of a node on the way waits for it next
pub is_last : (p : Problem) (w : Waiting) (i : ℕ) → 0 < i → IsWaiting p w i → last_at w (parent_of p.tree.nodes i) ≡ i
is_last p w i some is = is.way i (over_self (parent_of p.tree.nodes) (tree_falls p.tree.nodes p.tree.a_tree) i) (λ e. omega (arith, e, some))

-- A NODE COMES IN
module _ (p : Problem) (w new : Waiting) (i : ℕ) (is : IsWaiting p w i) (whole : last_at w i ≡ i) (some : 0 < i)
    (lasts : new.last.items ≡ set w.last.items (parent_of p.tree.nodes i) (before_at w i)) (befores : new.before.items ≡ w.before.items) where
  abbrev up : ℕ
  up = parent_of p.tree.nodes i

  up_i : up < i
  up_i = p.tree.a_tree.smaller i some is.node

  falls : Falls (parent_of p.tree.nodes)
  falls = tree_falls p.tree.nodes p.tree.a_tree

  at_up : last_at w up ≡ i
  at_up = is_last p w i some is

  new_up : last_at new up ≡ before_at w i
  new_up = ap (λ (xs : List ℕ). get_or xs up 0) lasts ∙ get_or-set_same w.last.items up (before_at w i) 0 (omega (arith, up_i, is.node, is.linked.lasts))

  new_other : (v : ℕ) → v ≢ up → last_at new v ≡ last_at w v
  new_other v other = ap (λ (xs : List ℕ). get_or xs v 0) lasts ∙ get_or-set_other w.last.items up v (before_at w i) 0 other

  next : IsLastBelow p i up (before_at w i)
  next = is.linked.before i some is.node

  next_less : before_at w i < i
  next_less = less p i up (before_at w i) up_i next

  pub crossed_off : IsCrossedOff p i w new
  crossed_off = record {
    came = λ there. omega (arith, there, new_up, next_less);
    was = λ v there. elim (cases_eq (parent_of p.tree.nodes v) up) [
      | inl e ↦ omega (arith, there, ap (last_at new) e, ap (last_at w) e, new_up, at_up, next_less)
      | inr other ↦ omega (arith, there, new_other (parent_of p.tree.nodes v) other)
    ];
    still = λ v apart there. elim (cases_eq (parent_of p.tree.nodes v) up) [
      | inl e ↦
          let low : v < i = omega (arith, apart, there, ap (last_at w) e, at_up) in
          let most : v ≤ before_at w i = elim (cases_eq v up) [
            | inl itself ↦ omega (arith, itself, no_less p i up (before_at w i) next)
            | inr other ↦ next.most v (child_of p up v e other (omega (arith, low, is.node))) low
          ] in
          omega (arith, most, ap (last_at new) e, new_up)
      | inr other ↦ omega (arith, there, new_other (parent_of p.tree.nodes v) other)
    ];
    others = new_other;
    next = subst (IsLastBelow p i up) (sym new_up) next;
  }

  pub still_waiting : IsWaiting p new up
  still_waiting = record {
    linked = record {
      lasts = ap (λ (xs : List ℕ). length xs) lasts ∙ length-set w.last.items up (before_at w i) ∙ is.linked.lasts;
      befores = ap (λ (xs : List ℕ). length xs) befores ∙ is.linked.befores;
      before = λ v v_some v_n. subst (λ (xs : List ℕ). IsLastBelow p v (parent_of p.tree.nodes v) (get_or xs v 0)) (sym befores) (is.linked.before v v_some v_n);
    };
    child = λ v v_n. elim (cases_eq v up) as (λ _. last_at new v ≢ v → IsChildOf p v (last_at new v)) [
      | inl e ↦ subst (λ (k : ℕ). last_at new k ≢ k → IsChildOf p k (last_at new k)) (sym e)
          (subst (λ (last : ℕ). last ≢ up → IsChildOf p up last) (sym new_up) next.child)
      | inr other ↦ subst (λ (last : ℕ). last ≢ v → IsChildOf p v last) (sym (new_other v other)) (is.child v v_n)
    ];
    upper = λ v v_n there. crossed_off.still (parent_of p.tree.nodes v) (below v v_n there) (is.upper v v_n (crossed_off.was v there));
    node = omega (arith, up_i, is.node);
    way = λ v over other.
        let low : v ≤ up = over_le (parent_of p.tree.nodes) falls v up over in
        let less : parent_of p.tree.nodes v < v = parent_less p v other (omega (arith, low, up_i, is.node)) in
        new_other (parent_of p.tree.nodes v) (λ e. omega (arith, e, less, low))
        ∙ is.way v (over_below (parent_of p.tree.nodes) falls v i (λ e. omega (arith, e, up_i)) (λ e. omega (arith, e, low, up_i)) ∙ over) other;
  }
    where
      -- no child of i is left
      below : (v : ℕ) → v < length p.tree.nodes → IsThere p new v → parent_of p.tree.nodes v ≢ i
      below v v_n there e =
          let low : v ≤ i = omega (arith, there, ap (last_at new) e, new_other i (λ same. omega (arith, same, up_i)), whole) in
          elim (cases_eq v i) [
            | inl same ↦ omega (arith, up_i, ap (parent_of p.tree.nodes) same, e)
            | inr other ↦ omega (arith, low, (child_of p i v e other v_n).above)
          ]

  pub fewer : sum new.last.items < sum w.last.items
  fewer =
      omega (
        arith,
        ap (λ (xs : List ℕ). sum xs) lasts,
        sum_by-set (λ (x : ℕ). x) w.last.items up (before_at w i) 0 (omega (arith, up_i, is.node, is.linked.lasts)),
        at_up,
        next_less,
      )
