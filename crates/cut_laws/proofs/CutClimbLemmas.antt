-- From the net of each piece one climbs to that of the root.
use Rattle.std.proofs.Common.{◌≡◌, ◌≢◌, ℕ, zero, suc, ◌<◌, ◌≤◌, List, [], ◌∷◌, refl, sym, ◌∙◌, subst, arith, inl, inr, Option, Some, length, AllPairs, Contains}
use Rattle.std.proofs.lemmas.Bool.{cases_eq}
use Rattle.elmore.specs.declared.problem.Problem.{Problem}
use Rattle.elmore.proofs.HeadLemmas.{head_above}
use Rattle.cut_laws.specs.Walks.{IsClimb}
use Rattle.cut_laws.specs.CutNets.{Pieces, net_at, Begins, AreCut}
use Rattle.cut_laws.proofs.BreadthLemmas.{differ, no_member, pairs_append}
use Rattle.cut_laws.proofs.FilterMapLemmas.{single, member_cons}
use Rattle.cut_laws.proofs.ProblemLemmas.{parent_in, cell_in, rooted_in}

-- x is the net of a piece that begins at a node before v
abbrev IsLower : Problem → List (Option ℕ) → Pieces → ℕ → ℕ → Type 0
IsLower p cells pieces v x = (u : ℕ) × Begins p cells u × (u < v) × (x ≡ pieces.net_of u)

record IsClimbFrom (p : Problem) (cells : List (Option ℕ)) (pieces : Pieces) (v : ℕ) (path : List ℕ) : Type 0 where
  pub climb : IsClimb pieces.nets (pieces.net_of v) path (pieces.net_of 0)
  pub lower : (x : ℕ) → Contains path x → IsLower p cells pieces v x
  pub once : AllPairs differ (pieces.net_of v ∷ path)

climb_from : (p : Problem) (cells : List (Option ℕ)) (pieces : Pieces) → AreCut p cells pieces
    → (v : ℕ) → Begins p cells v → (path : List ℕ) × IsClimbFrom p cells pieces v path
climb_from p cells pieces cut v b = up_to v v (omega arith) b
  where
    here : (v : ℕ) → v ≡ 0 → (path : List ℕ) × IsClimbFrom p cells pieces v path
    here v z =
        subst (λ u. (path : List ℕ) × IsClimbFrom p cells pieces u path) (sym z)
        ([], record { climb = (refl, cut.first); lower = λ x c. absurd (no_member x c); once = λ i j d i_j j_n same. absurd (omega arith) })

    more : (v u : ℕ) → Begins p cells v → Begins p cells u → u < v → (net_at pieces v).above ≡ Some (pieces.net_of u)
        → (path : List ℕ) × IsClimbFrom p cells pieces u path → (path : List ℕ) × IsClimbFrom p cells pieces v path
    more v u b d u_v above (path, c) = (
      pieces.net_of u ∷ path,
      record {
        climb = (above, c.climb);
        lower = lower;
        once =
            pairs_append (pieces.net_of v ∷ []) (pieces.net_of u ∷ path) (λ i j d i_j j_n same. absurd (omega arith)) c.once
            (λ h first there.
            let (t, e, t_v, h_t) = lower h there in
            absurd (omega (arith, cut.once v t b e (sym (single (pieces.net_of v) h first) ∙ h_t))));
      },
    )
      where
        lower : (x : ℕ) → Contains (pieces.net_of u ∷ path) x → IsLower p cells pieces v x
        lower x m =
            elim (member_cons (pieces.net_of u) path x m) [
              | inl e ↦ (u, d, u_v, e)
              | inr rest ↦
                  let (t, e, t_u, x_t) = c.lower x rest in
                  (t, e, omega arith, x_t)
            ]

    up_to : (k v : ℕ) → v ≤ k → Begins p cells v → (path : List ℕ) × IsClimbFrom p cells pieces v path
    up_to zero v v_k b = here v (omega arith)
    up_to (suc k) v v_k b =
        elim (cases_eq v 0) [
          | inl z ↦ here v z
          | inr some ↦
              let (u, e) = head_above (parent_in p) (length p.tree.nodes) (rooted_in p) (cell_in p cells) v b.head (omega arith) b.node in
              let d : Begins p cells u = record { node = e.within; head = e.head } in
              more v u b d e.smaller ((cut.each v b).above u d e.ends) (up_to k u (omega (arith, e.smaller)) d)
        ]

pub cut_climbs : (p : Problem) (cells : List (Option ℕ)) (pieces : Pieces) → AreCut p cells pieces
    → (v : ℕ) → Begins p cells v
    → (path : List ℕ) × IsClimb pieces.nets (pieces.net_of v) path (pieces.net_of 0) × AllPairs (λ a b. a ≢ b) (pieces.net_of v ∷ path)
cut_climbs p cells pieces cut v b =
    let (path, c) = climb_from p cells pieces cut v b in
    (path, c.climb, c.once)
