-- Which line is due where.
use Rattle.std.proofs.Common.{◌≡◌, ℕ, zero, suc, ◌+◌, ◌<◌, Bool, true, false, cond, List, [], ◌∷◌, ◌++◌, replicate, length, drop, get_or, refl, sym, ap, ◌∙◌, arith, Some, None}
use Rattle.std.proofs.lemmas.List.{drop-drop, get_or-drop, get_or-replicate, get_or_past, length-drop, length-replicate}
use Rattle.std.proofs.Math.ListN.{get_or-append}
use Rattle.std.proofs.Math.Seq.{drop-append_seam}
use Rattle.vg_scan.proofs.ItemLemmas.{next_is}
use Rattle.vg_cert.specs.Lines.{Line, line_at}
use Rattle.vg_cert.specs.Roles.{Role, heading, net, slack, cells, at, node, even, odd, end, over, roles, sections, body, cell_count, even_count, odd_count, section_length, goes_on, line_before}
use Rattle.vg_cert.specs.Readings.{Reading, line_of, lines_of, role_of, roles_left, lines_left, AreSectionsDue}

zeroth : (r : Reading) → role_of r 0 ≡ heading
unfolding roles
zeroth r = refl

first : (r : Reading) → role_of r 1 ≡ net
unfolding roles
first r = refl

second : (r : Reading) → role_of r 2 ≡ slack
unfolding roles
second r = refl

third : (r : Reading) → role_of r 3 ≡ cells
unfolding roles
third r = refl

pub role_0 : (r : Reading) (n : ℕ) → n ≡ 0 → role_of r n ≡ heading
role_0 r n e = ap (role_of r) e ∙ zeroth r

pub role_1 : (r : Reading) (n : ℕ) → n ≡ 1 → role_of r n ≡ net
role_1 r n e = ap (role_of r) e ∙ first r

pub role_2 : (r : Reading) (n : ℕ) → n ≡ 2 → role_of r n ≡ slack
role_2 r n e = ap (role_of r) e ∙ second r

pub role_3 : (r : Reading) (n : ℕ) → n ≡ 3 → role_of r n ≡ cells
role_3 r n e = ap (role_of r) e ∙ third r

after_head : (r : Reading) → roles_left r 4 ≡ replicate (cell_count (lines_of r)) at ++ sections 0 r.problem.live (body (lines_of r))
unfolding roles
after_head r = refl

-- a role by its place in what is left
pub role_left : (r : Reading) (n k : ℕ) → role_of r (n + k) ≡ get_or (roles_left r n) k over
role_left r n k = sym (get_or-drop n (roles r.problem (lines_of r)) k over)

in_run : {A : Type 0} (m : ℕ) (x : A) (rest : List A) (d : A) (k : ℕ) → k < m → get_or (replicate m x ++ rest) k d ≡ x
in_run m x rest d k l = get_or-append (replicate m x) rest d k (omega (arith, l, length-replicate m x)) ∙ get_or-replicate m k x d l

past_run : {A : Type 0} (m : ℕ) (x : A) (rest : List A) → drop m (replicate m x ++ rest) ≡ rest
past_run m x rest = ap (λ n. drop n (replicate m x ++ rest)) (sym (length-replicate m x)) ∙ drop-append_seam (replicate m x) rest

pub cell_role : (r : Reading) (n k : ℕ) → n ≡ 4 → k < cell_count (lines_of r) → role_of r (n + k) ≡ at
cell_role r n k e l =
    ap (λ m. role_of r (m + k)) e ∙ role_left r 4 k ∙ ap (λ xs. get_or xs k over) (after_head r)
    ∙ in_run (cell_count (lines_of r)) at (sections 0 r.problem.live (body (lines_of r))) over k l

-- after the cells the sections begin
pub sections_due : (r : Reading) (n : ℕ) → n ≡ 4 + cell_count (lines_of r) → AreSectionsDue r n 0 r.problem.live
sections_due r n e =
    let m = cell_count (lines_of r) in
    ap (roles_left r) e ∙ sym (drop-drop m 4 (roles r.problem (lines_of r))) ∙ ap (drop m) (after_head r) ∙ past_run m at (sections 0 r.problem.live (body (lines_of r)))
    ∙ ap (λ k. sections 0 r.problem.live (drop k (lines_of r))) (sym e)

-- a line before another, by its role
pub before_is : (r : Reading) (m n : ℕ) (x role : Role) → n ≡ suc m → role_of r m ≡ x → goes_on x role ≡ false → line_before r.problem (lines_of r) n role ≡ None
before_is r m n x role e is g =
    ap (λ k. line_before r.problem (lines_of r) k role) e
    ∙ ap (λ o. cond (goes_on o role) (Some (line_at (lines_of r) m)) None) is ∙ ap (λ b. cond b (Some (line_at (lines_of r) m)) None) g

pub before_goes : (r : Reading) (m n : ℕ) (role : Role) → n ≡ suc m → role_of r m ≡ role → goes_on role role ≡ true → line_before r.problem (lines_of r) n role ≡ Some (line_of r m)
before_goes r m n role e is g =
    ap (λ k. line_before r.problem (lines_of r) k role) e
    ∙ ap (λ o. cond (goes_on o role) (Some (line_at (lines_of r) m)) None) is ∙ ap (λ b. cond b (Some (line_at (lines_of r) m)) None) g

abbrev pub head_of : Reading → ℕ → Line
head_of r n = line_at (lines_left r n) 0

pub no_more : (n : ℕ) → n + 0 ≡ n
no_more n = omega arith

pub head_is : (r : Reading) (n : ℕ) → head_of r n ≡ line_of r n
head_is r n = get_or-drop n (lines_of r) 0 [] ∙ ap (line_of r) (no_more n)

-- what a section holds, in order
abbrev rest_of : Reading → ℕ → ℕ → List Bool → List Role
rest_of r n v live = sections (suc v) live (drop (section_length (head_of r n)) (lines_left r n))

section_roles : (r : Reading) (n v : ℕ) (live : List Bool) → AreSectionsDue r n v (true ∷ live)
    → roles_left r n ≡ node v ∷ (replicate (even_count (head_of r n)) even ++ (replicate (odd_count (head_of r n)) odd ++ rest_of r n v live))
unfolding sections
section_roles r n v live e = e

module _ (r : Reading) (n v : ℕ) (live : List Bool) (due : AreSectionsDue r n v (true ∷ live)) where
  pub section_node : role_of r n ≡ node v
  section_node = (next_is (roles r.problem (lines_of r)) n over (node v) _ (section_roles r n v live due)).here

  after_node : roles_left r (n + 1) ≡ replicate (even_count (head_of r n)) even ++ (replicate (odd_count (head_of r n)) odd ++ rest_of r n v live)
  after_node = (next_is (roles r.problem (lines_of r)) n over (node v) _ (section_roles r n v live due)).rest

  pub section_even : (m k : ℕ) → m ≡ n + 1 → k < even_count (head_of r n) → role_of r (m + k) ≡ even
  section_even m k e l = ap (λ i. role_of r (i + k)) e ∙ role_left r (n + 1) k ∙ ap (λ xs. get_or xs k over) after_node ∙ in_run (even_count (head_of r n)) even _ over k l

  after_even : roles_left r (n + 1 + even_count (head_of r n)) ≡ replicate (odd_count (head_of r n)) odd ++ rest_of r n v live
  after_even = sym (drop-drop (even_count (head_of r n)) (n + 1) (roles r.problem (lines_of r))) ∙ ap (drop (even_count (head_of r n))) after_node ∙ past_run (even_count (head_of r n)) even _

  pub section_odd : (m k : ℕ) → m ≡ n + 1 + even_count (head_of r n) → k < odd_count (head_of r n) → role_of r (m + k) ≡ odd
  section_odd m k e l = ap (λ i. role_of r (i + k)) e ∙ role_left r (n + 1 + even_count (head_of r n)) k ∙ ap (λ xs. get_or xs k over) after_even ∙ in_run (odd_count (head_of r n)) odd _ over k l

  pub section_rest : (m : ℕ) → m ≡ n + section_length (head_of r n) → AreSectionsDue r m (suc v) live
  section_rest m e =
      ap (roles_left r) (e ∙ omega arith) ∙ sym (drop-drop (odd_count (head_of r n)) (n + 1 + even_count (head_of r n)) (roles r.problem (lines_of r))) ∙ ap (drop (odd_count (head_of r n))) after_even
      ∙ past_run (odd_count (head_of r n)) odd _
      ∙ ap (sections (suc v) live) (drop-drop (section_length (head_of r n)) n (lines_of r) ∙ ap (λ k. drop k (lines_of r)) (sym e))

  pub even_first : (m : ℕ) → m ≡ n + 1 → line_before r.problem (lines_of r) m even ≡ None
  even_first m e = before_is r n m (node v) even (omega (arith, e)) section_node refl

  last_of : (count : ℕ) → even_count (head_of r n) ≡ count → (x : Role) × (role_of r (n + count) ≡ x) × (goes_on x odd ≡ false)
  last_of zero e = (node v, ap (role_of r) (no_more n) ∙ section_node, refl)
  last_of (suc k) e = (even, ap (role_of r) (omega arith) ∙ section_even (n + 1) k refl (omega (arith, e)), refl)

  pub odd_first : (m : ℕ) → m ≡ n + 1 + even_count (head_of r n) → line_before r.problem (lines_of r) m odd ≡ None
  odd_first m e =
      let (x, is, g) = last_of (even_count (head_of r n)) refl in
      before_is r (n + even_count (head_of r n)) m x odd (omega (arith, e)) is g

pub dead_due : (r : Reading) (n v : ℕ) (live : List Bool) → AreSectionsDue r n v (false ∷ live) → AreSectionsDue r n (suc v) live
unfolding sections
dead_due r n v live e = e

pub end_due : (r : Reading) (n v : ℕ) → AreSectionsDue r n v [] → roles_left r n ≡ end ∷ []
unfolding sections
end_due r n v e = e

pub end_here : (r : Reading) (n : ℕ) → roles_left r n ≡ end ∷ [] → role_of r n ≡ end
end_here r n e = (next_is (roles r.problem (lines_of r)) n over end [] e).here

pub end_over : (r : Reading) (n : ℕ) → roles_left r n ≡ end ∷ [] → role_of r (n + 1) ≡ over
end_over r n e =
    let x = next_is (roles r.problem (lines_of r)) n over end [] e in
    get_or_past (roles r.problem (lines_of r)) (n + 1) over (omega (arith, ap length x.rest, length-drop (n + 1) (roles r.problem (lines_of r))))
