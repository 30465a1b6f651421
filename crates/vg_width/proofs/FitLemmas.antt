-- The most that widths add, one width and one node more.
use Rattle.std.proofs.Common.{◌≡◌, ℕ, zero, suc, ◌+◌, ◌<◌, Bool, false, List, [], ◌∷◌, Option, refl, sym, ap, ◌∙◌, arith, length, get_or, take, max, add-one, cond}
use Rattle.std.proofs.lemmas.List.FromFn.{get_or-map-range_with_len}
use Rattle.std.specs.List.{sum_by, filter}
use Rattle.elmore.specs.Path.{nodes as node_numbers}
use Rattle.elmore.specs.Problems.{is_live, live_nodes}
use Rattle.elmore.specs.Steps.{marked}
use Rattle.elmore.specs.declared.tree.Node.{Node}
use Rattle.elmore.specs.declared.parts.Sink.{Sink}
use Rattle.elmore.proofs.SumLemmas.{sum_of_filter, sum_of_alike}
use Rattle.wire_widths.specs.Fits.{most_added}
use Rattle.wire_widths.specs.Widths.{added_by}
use Rattle.wire_widths.specs.declared.width.Width.{Width}

max_later : (a b c : ℕ) → max a (max b c) ≡ max b (max a c)
max_later a b c = omega arith

-- one more width
pub most_more : (widths : List Width) (i r : ℕ) (d : Width) → i < length widths
    → most_added (take (i + 1) widths) r ≡ max (added_by (get_or widths i d) r) (most_added (take i widths) r)
most_more [] i r d h = absurd (omega arith)
most_more (width ∷ widths) zero r d h = refl
most_more (width ∷ widths) (suc i) r d h =
    (let next : suc i + 1 ≡ suc (suc i) = omega arith in ap (λ (k : ℕ). most_added (take k (width ∷ widths)) r) next)
    ∙ ap (max (added_by width r)) (ap (λ (k : ℕ). most_added (take k widths) r) (sym (add-one i)) ∙ most_more widths i r d (omega arith))
    ∙ max_later (added_by width r) (added_by (get_or widths i d) r) (most_added (take i widths) r)

-- the sum over the live nodes, by their marks
pub live_sum : (nodes : List Node) (sinks : List (Option Sink)) (live : List Bool) (f : ℕ → ℕ) → live ≡ live_nodes nodes sinks
    → sum_by f (filter (marked live) (node_numbers (length nodes))) ≡ sum_by f (filter (is_live nodes sinks) (node_numbers (length nodes)))
live_sum nodes sinks live f are =
    sum_of_filter f (marked live) (node_numbers (length nodes))
    ∙ sum_of_alike (λ u. cond (marked live u) (f u) 0) (λ u. cond (is_live nodes sinks u) (f u) 0) (length nodes)
    (λ u u_n. ap (λ b. cond b (f u) 0)
    (ap (λ marks. marked marks u) are ∙ get_or-map-range_with_len (is_live nodes sinks) 0 (length nodes) u u false u_n (omega arith)))
    ∙ sym (sum_of_filter f (is_live nodes sinks) (node_numbers (length nodes)))
