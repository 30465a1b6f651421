-- A problem whose wires are divided is no worse, by the names of its nodes.
use Rattle.std.proofs.Common.{◌≡◌, ℕ, ◌<◌, Bool, true, false, cond, List, length, refl, sym, ap, ◌∙◌, subst, arith, inl, inr, Option, Some, None}
use Rattle.std.specs.Prelude.{slice_index_or}
use Rattle.std.proofs.lemmas.Bool.{cases_Bool}
use Rattle.std.proofs.lemmas.List.{ext_get_or}
use Rattle.std.proofs.lemmas.List.FromFn.{get_or-map-range_with_len, length-map-range_with_len}
use Rattle.divided_laws.specs.DividedTrees.{Chains, is_old}
use Rattle.divided_laws.specs.DividedProblems.{IsDividedProblem, moved}
use Rattle.divided_laws.proofs.ChainLemmas.{at_owner}
use Rattle.divided_laws.proofs.DividedSlackLemmas.{is_no_worse, keeps_good, keeps_slack, moved_same}
use Rattle.elmore.specs.Placements.{IsSlack}
use Rattle.elmore.specs.declared.problem.Problem.{Problem}
use Rattle.vg_design.specs.Nets.{IsBare, name_at}
use Rattle.vg_design.specs.declared.net_problem.NetProblem.{NetProblem}
use Rattle.segment_laws.specs.SegmentedDesigns.{HasCell, HaveSameCells, IsNoWorse}

-- no cells anywhere are the same as none
moved_bare : (p q : Problem) (t : Chains) (cells more : List (Option ℕ)) → IsBare p cells → IsBare q more
    → moved q t cells ≡ more
moved_bare p q t cells more a b =
    ext_get_or None (moved q t cells) more (count ∙ sym b.one_each) (λ x x_m.
    get_or-map-range_with_len one 0 (length q.tree.nodes) x x None (omega (arith, x_m, count)) (omega arith)
    ∙ ap (λ o. cond (is_old t x) o None) (a.none (t.owner x)) ∙ nothing (is_old t x) ∙ sym (b.none x))
  where
    one : ℕ → Option ℕ
    one x = cond (is_old t x) (slice_index_or cells (t.owner x) None) None

    count : length (moved q t cells) ≡ length q.tree.nodes
    count = length-map-range_with_len one 0 (length q.tree.nodes)

    nothing : (b : Bool) → cond {A = Option ℕ} b None None ≡ None
    nothing true = refl
    nothing false = refl

module _ (p q : NetProblem) (t : Chains) (d : IsDividedProblem p.problem q.problem t)
    (names : (u : ℕ) → u < length p.problem.tree.nodes → name_at q.names (t.at u) ≡ name_at p.names u) where
  same_cells : (cells : List (Option ℕ)) → HaveSameCells p cells q (moved q.problem t cells)
  same_cells cells at cell = (there, back)
    where
      there : HasCell p cells at cell → HasCell q (moved q.problem t cells) at cell
      there h = record {
        node = t.at h.node;
        within = d.divided.within h.node h.within;
        named = names h.node h.within ∙ h.named;
        has = (moved_same p.problem q.problem t cells d).same h.node h.within ∙ h.has;
      }

      back : HasCell q (moved q.problem t cells) at cell → HasCell p cells at cell
      back h = elim (cases_Bool (is_old t h.node)) [
        | inl is ↦
            let u = t.owner h.node in
            let low : u < length p.problem.tree.nodes = d.divided.owners h.node h.within in
            let here : t.at u ≡ h.node = at_owner t h.node is in
            record {
              node = u;
              within = low;
              named = sym (names u low) ∙ ap (name_at q.names) here ∙ h.named;
              has = sym ((moved_same p.problem q.problem t cells d).same u low)
                  ∙ ap (λ x. slice_index_or (moved q.problem t cells) x None) here ∙ h.has;
            }
        | inr is ↦
            let clash : None ≡ Some cell =
            sym ((moved_same p.problem q.problem t cells d).none h.node h.within is) ∙ h.has in
            absurd (cc)
      ]

  pub no_worse : IsNoWorse p q
  no_worse = record {
    bare = λ cells more x a b slack.
        subst (λ (l : List (Option ℕ)). IsSlack q.problem l x) (moved_bare p.problem q.problem t cells more a b)
        (keeps_slack p.problem q.problem t cells x d slack);
    placed = λ cells good. (
      moved q.problem t cells,
      record {
        cells_are = same_cells cells;
        good = keeps_good p.problem q.problem t cells d good;
        slack = λ x slack. keeps_slack p.problem q.problem t cells x d slack;
      },
    );
    best = λ cells more x y a b. is_no_worse p.problem q.problem t cells more x y d a b;
  }
