-- The lines of a certificate stand where they are due, without a fault.
use Rattle.std.proofs.Common.{◌≡◌, ℕ, suc, ◌+◌, ◌<◌, ◌≤◌, ◌⊎◌, inl, inr, Bool, true, false, cond, List, [], ◌∷◌, ◌++◌, map, replicate, length, drop, get_or, refl, sym, ap, ◌∙◌, subst, arith, append_assoc, length-append, ℤ, Option, Some, None, is_some, option_map}
use Rattle.std.specs.Prelude.{⊤, IfSome}
use Rattle.std.specs.Fmt.{decimal}
use Rattle.std.specs.List.{All, AllPairs, count_by}
use Rattle.std.proofs.Math.Seq.{drop-append_seam}
use Rattle.std.proofs.lemmas.List.{length-map}
use Rattle.std.proofs.lemmas.List.Elements.{All-head, All-tail}
use Rattle.std.proofs.lemmas.List.Sums.{count_by-le-length, sum_by-cons}
use Rattle.elmore.specs.Pairs.{IsBelow}
use Rattle.elmore.specs.declared.pair.Pair.{Pair}
use Rattle.elmore.specs.declared.problem.Problem.{Problem}
use Rattle.vg_scan.specs.declared.name.NodeName.{NodeName}
use Rattle.vg_scan.specs.declared.name.NetNames.{NetNames}
use Rattle.vg_cert.specs.Denoted.{Lists}
use Rattle.vg_cert.specs.Fits.{IsTime, IsEntry}
use Rattle.vg_cert.specs.Lines.{Line}
use Rattle.vg_cert.specs.Roles as due
use Rattle.vg_cert.specs.Roles.{Role, goes_on, sections, roles, body, cell_count, even_count, odd_count, section_length}
use Rattle.vg_cert.specs.Faults.{is_none, fault_of, pair_in}
use Rattle.vg_cert.specs.Readings.{is_unordered, node_after}
use Rattle.vg_cert.specs.Written.{slack_line, count_line, pair_line, node_line}
use Rattle.vg_cert.proofs.ClearLemmas.{Before, line_after, AreClear}
use Rattle.vg_cert.proofs.ListLemmas.{listed_goes}
use Rattle.vg_cert.proofs.LineClearLemmas.{pair_again, pair_clear, above_is, at_words, at_places, at_clear, node_clear, heading_clear, net_clear, slack_clear, cells_clear, end_clear, count_word, count_fine, count_again}
use Rattle.vg_cert.proofs.OntoLemmas.{cells_onto, lists_onto, lines_onto, end_line, IsWritten, AreWritten}

none_after : (last : Before) (role : Role) → ((x : Role) → goes_on x role ≡ false) → line_after last role ≡ None
none_after None role h = refl
none_after (Some x) role h = ap (λ b. cond b (Some x.1) None) (h x.0)

-- a list

abbrev after_top : Option Pair → List Pair → List Pair
after_top None xs = xs
after_top (Some y) xs = y ∷ xs

above_first : (top : Option Pair) (x : Pair) (xs : List Pair) → AllPairs IsBelow (after_top top (x ∷ xs)) → is_unordered top x ≡ false
above_first None x xs h = refl
above_first (Some y) x xs h = above_is y x (h 0 1 x (omega arith) (omega arith))

rising_after : (top : Option Pair) (x : Pair) (xs : List Pair) → AllPairs IsBelow (after_top top (x ∷ xs)) → AllPairs IsBelow (x ∷ xs)
rising_after None x xs h = h
rising_after (Some y) x xs h = λ i j d l m. h (suc i) (suc j) d (omega (arith, l)) (omega (arith, m))

module _ (names : NetNames) (head : Line) (role : Role) (listed : (role ≡ due.even) ⊎ (role ≡ due.odd)) (K : Before → Type 0) (kept : (l : Line) → K (Some (role, l))) (rs : List Role) (ls : List Line)
    (rest : (last : Before) → K last → AreClear names head last rs ls) where
  goes : (x : Pair) → IsEntry x → option_map pair_in (line_after (Some (role, pair_line x)) role) ≡ Some x
  goes x e = ap (λ b. option_map pair_in (cond b (Some (pair_line x)) None)) (listed_goes role listed) ∙ ap (λ (y : Pair). Some y) (pair_again x e)

  pairs_clear : (xs : List Pair) (last : Before) (top : Option Pair) → option_map pair_in (line_after last role) ≡ top → AllPairs IsBelow (after_top top xs) → All IsEntry xs → K last
      → AreClear names head last (replicate (length xs) role ++ rs) (map pair_line xs ++ ls)
  pairs_clear [] last top e h all k = rest last k
  pairs_clear (x ∷ xs) last top e h all k =
      let entry = All-head IsEntry x xs all in (
        pair_clear names head role (line_after last role) x top listed e entry (above_first top x xs h),
        pairs_clear xs (Some (role, pair_line x)) (Some x) (goes x entry) (rising_after top x xs h) (All-tail IsEntry x xs all) (kept (pair_line x)),
      )

-- the sections

pub evens_again : (names : NetNames) (v : ℕ) (x : Lists) → IsWritten true x → even_count (node_line names v x) ≡ length x.0
evens_again names v x w = count_again (length x.0) (omega (arith, w.evens.few))

pub odds_again : (names : NetNames) (v : ℕ) (x : Lists) → IsWritten true x → odd_count (node_line names v x) ≡ length x.1
odds_again names v x w = count_again (length x.1) (omega (arith, w.odds.few))

abbrev pub section_onto : NetNames → ℕ → Lists → List Line → List Line
section_onto names v x rest = node_line names v x ∷ (map pair_line x.0 ++ (map pair_line x.1 ++ rest))

pub section_past : (names : NetNames) (v : ℕ) (x : Lists) (rest : List Line) → IsWritten true x → drop (section_length (node_line names v x)) (section_onto names v x rest) ≡ rest
section_past names v x rest w =
    let e = map pair_line x.0 in
    let o = map pair_line x.1 in
    let long : section_length (node_line names v x) ≡ suc (length (e ++ o))
    = omega (arith, evens_again names v x w, odds_again names v x w, length-map x.0 pair_line, length-map x.1 pair_line, length-append e o) in
    ap (λ k. drop k (section_onto names v x rest)) long ∙ ap (drop (length (e ++ o))) (sym (append_assoc e o rest)) ∙ drop-append_seam (e ++ o) rest

section_roles : (names : NetNames) (v : ℕ) (x : Lists) (live : List Bool) (rest : List Line) → IsWritten true x
    → sections v (true ∷ live) (section_onto names v x rest) ≡ due.node v ∷ (replicate (length x.0) due.even ++ (replicate (length x.1) due.odd ++ sections (suc v) live rest))
unfolding sections
section_roles names v x live rest w = λ i.
    due.node v ∷ (replicate (evens_again names v x w i) due.even ++ (replicate (odds_again names v x w i) due.odd ++ sections (suc v) live (section_past names v x rest w i)))

module _ (names : NetNames) (head : Line) (rest : List Line) where
  end_alone : (last : Before) → AreClear names head last (due.end ∷ []) (end_line ∷ [])
  end_alone last = (ap (λ o. fault_of names head due.end o end_line) (none_after last due.end (λ x. refl)) ∙ end_clear names head, tt)

  node_here : (last : Before) (v : ℕ) (x : Lists) → IsWritten true x → fault_of names head (due.node v) (line_after last (due.node v)) (node_line names v x) ≡ None
  node_here last v x w =
      ap (λ o. fault_of names head (due.node v) o (node_line names v x)) (none_after last (due.node v) (λ y. refl))
      ∙ node_clear names head v (decimal (length x.0)) (decimal (length x.1)) (count_word (length x.0) w.evens.few) (count_word (length x.1) w.odds.few) (count_fine (length x.0) w.evens.few) (count_fine (length x.1) w.odds.few)

  pub sections_clear : (v : ℕ) (live : List Bool) (xs : List Lists) (last : Before) → AreWritten live xs → AreClear names head last (sections v live (lists_onto names v live xs (end_line ∷ rest))) (lists_onto names v live xs (end_line ∷ []))
  unfolding sections
  sections_clear v [] [] last h = end_alone last
  sections_clear v [] (x ∷ xs) last h = absurd h
  sections_clear v (b ∷ live) [] last h = absurd h
  sections_clear v (false ∷ live) (x ∷ xs) last h = sections_clear (suc v) live xs last h.1
  sections_clear v (true ∷ live) (x ∷ xs) last h =
      let later : (next : Before) → AreClear names head next (sections (suc v) live (lists_onto names (suc v) live xs (end_line ∷ rest))) (lists_onto names (suc v) live xs (end_line ∷ []))
      = λ next. sections_clear (suc v) live xs next h.1 in
      subst (λ rs. AreClear names head last rs (section_onto names v x (lists_onto names (suc v) live xs (end_line ∷ [])))) (sym (section_roles names v x live (lists_onto names (suc v) live xs (end_line ∷ rest)) h.0))
      (section_clear last v x live h.0 (sections (suc v) live (lists_onto names (suc v) live xs (end_line ∷ rest))) (lists_onto names (suc v) live xs (end_line ∷ [])) later)
    where
      section_clear : (last : Before) (v : ℕ) (x : Lists) (live : List Bool) → IsWritten true x → (rs : List Role) (ls : List Line) → ((next : Before) → AreClear names head next rs ls)
          → AreClear names head last (due.node v ∷ (replicate (length x.0) due.even ++ (replicate (length x.1) due.odd ++ rs))) (section_onto names v x ls)
      section_clear last v x live w rs ls later = (
        node_here last v x w,
        pairs_clear names head due.even (inl refl) (λ next. line_after next due.odd ≡ None) (λ l. refl) (replicate (length x.1) due.odd ++ rs) (map pair_line x.1 ++ ls)
            (λ next k. pairs_clear names head due.odd (inr refl) (λ _. ⊤) (λ _. tt) rs ls (λ after _. later after) x.1 next None (ap (option_map pair_in) k) w.odds.rising w.odds.entries tt)
            x.0 (Some (due.node v, node_line names v x)) None refl w.evens.rising w.evens.entries refl,
      )

-- the cells

pub count_none : (cells : List (Option ℕ)) → count_by is_some (None ∷ cells) ≡ count_by is_some cells
count_none cells = omega arith

pub count_some : (b : ℕ) (cells : List (Option ℕ)) → count_by is_some (Some b ∷ cells) ≡ suc (count_by is_some cells)
count_some b cells = omega (arith, sum_by-cons (λ (c : Option ℕ). cond (is_some c) 1 0) (Some b) cells)

module _ (names : NetNames) (nodes : AllPairs (λ (a b : NodeName). a ≡ b → ⊥) names.nodes) (cell_names : AllPairs (λ (a b : List ℕ). a ≡ b → ⊥) names.cells) (head : Line) (rs : List Role) (ls : List Line)
    (rest : (last : Before) → AreClear names head last rs ls) where
  pub cells_run : (v : ℕ) (cells : List (Option ℕ)) (last : Before) (next : ℕ) → node_after names (line_after last due.at) ≡ next → next ≤ v → v + length cells ≤ length names.nodes
      → ((k b : ℕ) → get_or cells k None ≡ Some b → (b < length names.cells) × (is_none head ≡ false)) → AreClear names head last (replicate (count_by is_some cells) due.at ++ rs) (cells_onto names v cells ls)
  cells_run v [] last next e n l h = rest last
  cells_run v (None ∷ cells) last next e n l h =
      subst (λ k. AreClear names head last (replicate k due.at ++ rs) (cells_onto names (suc v) cells ls)) (sym (count_none cells)) (cells_run (suc v) cells last next e (omega (arith, n)) (omega (arith, l)) (λ k b f. h (suc k) b f))
  cells_run v (Some b ∷ cells) last next e n l h =
      let here = h 0 b refl in
      let within : v < length names.nodes = omega (arith, l) in
      let after : node_after names (line_after (Some (due.at, at_words names v b)) due.at) ≡ suc v = ap (λ (x : ℕ × ℕ). suc x.0) (at_places names nodes cell_names v b within here.0) in
      subst (λ k. AreClear names head last (replicate k due.at ++ rs) (at_words names v b ∷ cells_onto names (suc v) cells ls)) (sym (count_some b cells)) (
        at_clear names nodes cell_names v b within here.0 head (line_after last due.at) next here.1 e n,
        cells_run (suc v) cells (Some (due.at, at_words names v b)) (suc v) after (omega arith) (omega (arith, l)) (λ k c f. h (suc k) c f),
      )

pub cells_past : (names : NetNames) (v : ℕ) (cells : List (Option ℕ)) (rest : List Line) → drop (count_by is_some cells) (cells_onto names v cells rest) ≡ rest
cells_past names v [] rest = refl
cells_past names v (None ∷ cells) rest = ap (λ k. drop k (cells_onto names (suc v) cells rest)) (count_none cells) ∙ cells_past names (suc v) cells rest
cells_past names v (Some b ∷ cells) rest = ap (λ k. drop k (at_words names v b ∷ cells_onto names (suc v) cells rest)) (count_some b cells) ∙ cells_past names (suc v) cells rest

-- all lines

module _ (names : NetNames) (slack : Option ℤ) (cells : List (Option ℕ)) (live : List Bool) (xs : List Lists) (few : length cells ≤ 65536) where
  pub count_of : (rest : List Line) → cell_count (lines_onto names slack cells live xs rest) ≡ count_by is_some cells
  count_of rest = count_again (count_by is_some cells) (omega (arith, few, count_by-le-length is_some cells))

  pub body_of : (rest : List Line) → body (lines_onto names slack cells live xs rest) ≡ lists_onto names 0 live xs (end_line ∷ rest)
  body_of rest =
      ap (λ k. drop k (lines_onto names slack cells live xs rest)) (let e : 4 + cell_count (lines_onto names slack cells live xs rest) ≡ suc (suc (suc (suc (count_by is_some cells)))) = omega (arith, count_of rest) in e)
      ∙ cells_past names 0 cells (lists_onto names 0 live xs (end_line ∷ rest))

  pub roles_of : (p : Problem) (rest : List Line) → roles p (lines_onto names slack cells live xs rest)
      ≡ due.heading ∷ due.net ∷ due.slack ∷ due.cells ∷ (replicate (count_by is_some cells) due.at ++ sections 0 p.live (lists_onto names 0 live xs (end_line ∷ rest)))
  unfolding roles
  roles_of p rest = λ i. due.heading ∷ due.net ∷ due.slack ∷ due.cells ∷ (replicate (count_of rest i) due.at ++ sections 0 p.live (body_of rest i))

pub lines_clear : (p : Problem) (names : NetNames) (slack : Option ℤ) (cells : List (Option ℕ)) (xs : List Lists) (rest : List Line) → AllPairs (λ (a b : NodeName). a ≡ b → ⊥) names.nodes
    → AllPairs (λ (a b : List ℕ). a ≡ b → ⊥) names.cells → IfSome slack IsTime → length cells ≤ 65536 → length cells ≤ length names.nodes
    → ((k b : ℕ) → get_or cells k None ≡ Some b → (b < length names.cells) × (is_none (slack_line slack) ≡ false)) → AreWritten p.live xs
    → AreClear names (slack_line slack) None (roles p (lines_onto names slack cells p.live xs rest)) (lines_onto names slack cells p.live xs [])
lines_clear p names slack cells xs rest nodes cell_names t few l h w =
    let head = slack_line slack in
    subst (λ rs. AreClear names head None rs (lines_onto names slack cells p.live xs [])) (sym (roles_of names slack cells p.live xs few p rest)) (
      heading_clear names head,
      (
        net_clear names head,
        (
          slack_clear names head slack t,
          (
            cells_clear names head (count_by is_some cells) (omega (arith, few, count_by-le-length is_some cells)),
            cells_run names nodes cell_names head (sections 0 p.live (lists_onto names 0 p.live xs (end_line ∷ rest))) (lists_onto names 0 p.live xs (end_line ∷ [])) (λ last. sections_clear names head rest 0 p.live xs last w)
                0 cells (Some (due.cells, count_line cells)) 0 refl (omega arith) (omega (arith, l)) h,
          ),
        ),
      ),
    )
