-- Of the same texts mode `total` says one kind, and where a name is taken it says nothing.
use Rattle.std.proofs.Common.{◌≡◌, ◌⊎◌, inl, inr, ℕ, List, [], ◌∷◌, refl, sym, ◌∙◌, subst, arith, Option, Some, None}
use Rattle.std.specs.List.{AllZip, flat_map}
use Rattle.elmore.specs.Frontier.{Point, IsFrontier}
use Rattle.vg_front.specs.declared.root.Point.{Point as Pick}
use Rattle.vg_change.specs.Taken.{taken}
use Rattle.vg_design.specs.Designs.{Design, net_names}
use Rattle.vg_design.specs.Nets.{IsNetProblem}
use Rattle.vg_design.specs.declared.net_problem.NetProblem.{NetProblem}
use Rattle.vg_design.proofs.LawLemmas.{one_problem, one_refusal, problem_or_refused}
use Rattle.design_read.specs.Designs.{Texts}
use Rattle.design_read.proofs.LawLemmas.{one_is}
use Rattle.vg_answer.specs.Answers.{Said, Written}
use Rattle.vg_answer.specs.declared.kind.AnswerKind.{AnswerKind}
use Rattle.vg_answer.proofs.ProblemLemmas.{one_of_parts}
use Rattle.vg_place.specs.Placings.{Files, changed_files, kept}
use Rattle.vg_place.proofs.ApartLemmas.{free_not_taken}
use Rattle.mode_total.specs.Answers.{Asked, AreWrittenFor, IsTotalAnswer, IsTotalSaid, IsTotalTaken, last_picked}
use Rattle.mode_total.specs.Choices.{Accepted, AreChoices, Choice, Standing, Stands, accepted_in, total_of}
use Rattle.mode_total.specs.Lines.{kind_for, kind_with}

-- ---- how nets stand

module _ (d : Design) where
  one_net : (name : List ℕ) (a b : NetProblem) → IsNetProblem d name a → IsNetProblem d name b → a ≡ b
  one_net name a b p q =
      let same = one_problem d name a b p q in
      let problems = one_of_parts a.problem b.problem same.tree same.driver same.sinks same.places same.reps same.allowed in
      λ i. record { problem = problems i; names = same.names i }

  -- a net stands in one way
  one_standing : (name : List ℕ) (a b : Standing) → Stands d name a → Stands d name b → a ≡ b
  one_standing name (Standing.accepted a) (Standing.accepted b) (a_is, a_of) (b_is, b_of) =
      let names = a_is ∙ sym b_is in
      let nets = one_net name a.net b.net a_of b_of in
      λ i. Standing.accepted (record { name = names i; net = nets i })
  one_standing name (Standing.accepted a) (Standing.refused own refusal) (a_is, a_of) (own_is, refused) =
      absurd (problem_or_refused d name a.net refusal a_of refused)
  one_standing name (Standing.refused own refusal) (Standing.accepted b) (own_is, refused) (b_is, b_of) =
      absurd (problem_or_refused d name b.net refusal b_of refused)
  one_standing name (Standing.refused own refusal) (Standing.refused other later) (own_is, refused) (other_is, refused_later) =
      let names = own_is ∙ sym other_is in
      let refusals = one_refusal d name refusal later refused refused_later in
      λ i. Standing.refused (names i) (refusals i)

  same_standings : (names : List (List ℕ)) (us vs : List Standing) → AllZip (Stands d) names us → AllZip (Stands d) names vs → us ≡ vs
  same_standings [] [] [] a b = refl
  same_standings [] [] (v ∷ vs) a b = absurd b
  same_standings [] (u ∷ us) vs a b = absurd a
  same_standings (name ∷ names) [] vs a b = absurd a
  same_standings (name ∷ names) (u ∷ us) [] a b = absurd b
  same_standings (name ∷ names) (u ∷ us) (v ∷ vs) a b = λ i. one_standing name u v a.0 b.0 i ∷ same_standings names us vs a.1 b.1 i

-- ---- whether there is a choice

-- a frontier without points is that of an empty set
no_point : (In : Point → Type 0) → IsFrontier In [] → (point : Point) → In point → ⊥
no_point In none point is = let (other, (k, low, at), outdoes) = none.covers point is in omega (arith, low)

module _ (nets : List Accepted) (cap : Option ℕ) where
  no_choice : (choice : Choice) (choices : List Choice) → AreChoices nets cap [] → AreChoices nets cap (choice ∷ choices) → ⊥
  no_choice choice choices none some =
      no_point _ none.frontier (total_of choice) (some.frontier.taken 0 (total_of choice) (omega arith)).attained

  one_kind_with : (a b : List Choice) → AreChoices nets cap a → AreChoices nets cap b → kind_with a ≡ kind_with b
  one_kind_with [] [] p q = refl
  one_kind_with [] (b ∷ bs) p q = absurd (no_choice b bs p q)
  one_kind_with (a ∷ rest) [] p q = absurd (no_choice a rest q p)
  one_kind_with (a ∷ rest) (b ∷ bs) p q = refl

-- ---- the answer

one_kind_said : (d : Design) (cap : Option ℕ) (a b : AnswerKind) (s t : List ℕ) → IsTotalSaid d cap a s → IsTotalSaid d cap b t → a ≡ b
one_kind_said d cap a b s t p q =
    let same : p.standings ≡ q.standings = same_standings d (net_names d.spef) p.standings q.standings p.each q.each in
    let here : AreChoices (flat_map accepted_in q.standings) cap p.choices
    = subst (λ (standings : List Standing). AreChoices (flat_map accepted_in standings) cap p.choices) same p.are in
    let ends : kind_with p.choices ≡ kind_with q.choices = one_kind_with (flat_map accepted_in q.standings) cap p.choices q.choices here q.are in
    p.kind_is ∙ kind_same p.standings q.standings p.choices q.choices same ends ∙ sym q.kind_is
  where
    kind_same : (us vs : List Standing) (xs ys : List Choice) → us ≡ vs → kind_with xs ≡ kind_with ys → kind_for us xs ≡ kind_for vs ys
    kind_same us vs xs ys same ends = cc

-- of the same texts one kind is said
pub one_kind : (texts : Texts) (asked : Asked) (a b : AnswerKind) (t u : Said) → IsTotalAnswer texts asked a t → IsTotalAnswer texts asked b u → a ≡ b
one_kind texts asked a b t u p q =
    let same : q.design ≡ p.design = one_is texts q.design p.design q.design_of p.design_of in
    one_kind_said p.design asked.cap a b t.text u.text p.total (subst (λ (d : Design). IsTotalSaid d asked.cap b u.text) same q.total)

-- ---- what is written

-- no file, or the netlist and the parasitics
none_or_both : (read : Files) (d : Design) (prefix : Option (List ℕ)) (picked : List (Accepted × Pick)) (written : List Written)
    → AreWrittenFor read d prefix picked written → (written ≡ []) ⊎ ((files : Files) × (written ≡ changed_files files))
none_or_both read d None picked written none = inl none
none_or_both read d (Some prefix) picked written (free, (files, with_cells, are)) = inr (files, are)

pub files_are : (texts : Texts) (asked : Asked) (kind : AnswerKind) (t : Said) → IsTotalAnswer texts asked kind t
    → (t.files ≡ []) ⊎ ((files : Files) × (t.files ≡ changed_files files))
files_are texts asked kind t is =
    none_or_both (kept texts) is.design asked.prefix (last_picked is.total.standings is.total.choices) t.files is.written

-- what is written for a prefix is of a design none of whose names begins with it
free_where_written : (read : Files) (d : Design) (prefix : List ℕ) (asked : Option (List ℕ)) (picked : List (Accepted × Pick)) (written : List Written)
    → asked ≡ Some prefix → AreWrittenFor read d asked picked written → taken d prefix ≡ None
free_where_written read d prefix asked picked written given are = (subst (λ (p : Option (List ℕ)). AreWrittenFor read d p picked written) given are).0

-- so of texts of which something is said no name is taken
pub not_taken : (texts : Texts) (asked : Asked) (kind : AnswerKind) (t : Said) (name : List ℕ) → IsTotalAnswer texts asked kind t
    → IsTotalTaken texts asked name → ⊥
not_taken texts asked kind t name is taken_by =
    let picked = last_picked is.total.standings is.total.choices in
    let free = free_where_written (kept texts) is.design taken_by.prefix asked.prefix picked t.files taken_by.given is.written in
    free_not_taken texts taken_by.prefix is.design name (record { design_of = is.design_of; free = free }) taken_by.is_taken
