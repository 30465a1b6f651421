-- Cells that are put into nets, one after another.
use Rattle.std.proofs.Common.{◌≡◌, ℕ, ◌+◌, ◌==◌, ◌||◌, Bool, true, false, List, [], ◌∷◌, ◌++◌, refl, sym, ap, ◌∙◌, subst, Option, Some}
use Rattle.std.specs.Prelude.{if◌then◌else◌}
use Rattle.std.specs.List.{slice_get}
use Rattle.std.proofs.lemmas.Bool.{eqb-true}
use Rattle.vg_change.specs.Changes.{Changes, HasPut, HavePut}
use Rattle.vg_change.specs.Placed.{PlacedNet}
use Rattle.vg_change.specs.Steps.{placed_net}
use Rattle.change_spef_laws.specs.Order.{AreOpenFrom}
use Rattle.change_spef_laws.proofs.OrderLemmas.{open_later, open_put}
use Rattle.vg_design.specs.Designs.{Design, net_names}
use Rattle.vg_design.specs.Nets.{IsPosedNet}
use Rattle.vg_design.specs.declared.net_problem.PosedNet.{PosedNet}
use Rattle.vg_report.specs.Reports.{cell_count}
use Rattle.vg_answer.specs.Verdicts.{Verdict}
use Rattle.vg_place.specs.Placings.{IsPutSaid, put_of}
use Rattle.vg_place.specs.Steps.{ArePut, has_any}

pub put_both : (a b c : Changes) (xs ys : List PlacedNet) → HavePut a xs b → HavePut b ys c → HavePut a (xs ++ ys) c
put_both a b c [] ys first second = subst (λ (s : Changes). HavePut s ys c) first second
put_both a b c (x ∷ xs) ys (mid, one, more) second = (mid, one, put_both mid b c xs ys more second)

-- the design and the prefix stay
pub put_stays : (old : Changes) (nets : List PlacedNet) (c : Changes) → HavePut old nets c → (c.design ≡ old.design) × (c.prefix ≡ old.prefix)
put_stays old [] c put = (ap (λ (s : Changes). s.design) put, ap (λ (s : Changes). s.prefix) put)
put_stays old (p ∷ nets) c (mid, one, more) =
    let rest = put_stays mid nets c more in
    (rest.0 ∙ ap (λ (s : Changes). s.design) one.is, rest.1 ∙ ap (λ (s : Changes). s.prefix) one.is)

pub any_both : (xs ys : List PlacedNet) → has_any (xs ++ ys) ≡ (has_any xs || has_any ys)
any_both [] ys = refl
any_both (x ∷ xs) ys = refl

-- ---- of one net

-- without a cell nothing is put, and else the net
pub put_bare : (c : Changes) (net : PosedNet) (cells : List (Option ℕ)) → cell_count cells ≡ 0 → ArePut c (put_of net cells) c false
put_bare c net cells none = by_test (cell_count cells == 0) (eq_is none)
  where
    eq_is : cell_count cells ≡ 0 → (cell_count cells == 0) ≡ true
    eq_is e = ap (λ n. n == 0) e

    by_test : (b : Bool) → b ≡ true → ArePut c (if b then [] else placed_net net cells ∷ []) c false
    by_test true e = record { put = refl; told = refl }
    by_test false e = absurd cc

pub put_celled : (c new : Changes) (net : PosedNet) (cells : List (Option ℕ)) → (cell_count cells ≡ 0 → ⊥) → HasPut c (placed_net net cells) new
    → ArePut c (put_of net cells) new true
put_celled c new net cells some put = by_test (cell_count cells == 0) (λ e. some (eqb-true (cell_count cells) 0 e))
  where
    by_test : (b : Bool) → (b ≡ true → ⊥) → ArePut c (if b then [] else placed_net net cells ∷ []) new true
    by_test true other = absurd (other refl)
    by_test false other = record { put = (new, put, refl); told = refl }

-- ---- cells may be put into the nets behind the one of which something was said

put_open : (d : Design) (c new : Changes) (at : ℕ) (name : List ℕ) (net : PosedNet) (cells : List (Option ℕ)) → c.design ≡ d → AreOpenFrom c at
    → slice_get (net_names d.spef) at ≡ Some name → IsPosedNet d name net → (b : Bool) → HavePut c (if b then [] else placed_net net cells ∷ []) new → AreOpenFrom new (at + 1)
put_open d c new at name net cells same free here is true put = subst (λ (made : Changes). AreOpenFrom made (at + 1)) (sym put) (open_later c at free)
put_open d c new at name net cells same free here is false (mid, one, e) =
    subst (λ (made : Changes). AreOpenFrom made (at + 1)) (sym e)
    (open_put c mid at name free (subst (λ (x : Design). slice_get (net_names x.spef) at ≡ Some name) (sym same) here) net
    (subst (λ (x : Design). IsPosedNet x name net) (sym same) is) cells one)

pub open_more : (d : Design) (c new : Changes) (at : ℕ) (name : List ℕ) (v : Verdict) → c.design ≡ d → AreOpenFrom c at → slice_get (net_names d.spef) at ≡ Some name
    → IsPutSaid d name v → HavePut c v.put new → AreOpenFrom new (at + 1)
open_more d c new at name v same free here (IsPutSaid.puts_cells net of cells good is) put =
    put_open d c new at name net cells same free here of (cell_count cells == 0) (subst (λ (nets : List PlacedNet). HavePut c nets new) is put)
open_more d c new at name v same free here (IsPutSaid.puts_nothing none) put =
    let stays : new ≡ c = subst (λ (nets : List PlacedNet). HavePut c nets new) none put in
    subst (λ (made : Changes). AreOpenFrom made (at + 1)) (sym stays) (open_later c at free)
