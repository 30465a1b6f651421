-- Which line of a certificate's text is which: a line's place is given by the counts that the lines before it write.
use Rattle.std.specs.Prelude.{ℕ, suc, zero, ◌+◌, cond, Bool, true, false, List, [], ◌∷◌, ◌++◌, replicate, drop, get_or, Option, Some, None}
use Rattle.elmore.specs.declared.problem.Problem.{Problem}
use Rattle.vg_cert.specs.Lines.{Line, line_at, word, count_in}

-- `vgcert 1`, `net NAME`, `slack S`, `cells N`, `at NODE CELL`, `node NODE A B` of this node, a pair of the even and of
-- the odd list, `end`, and what stands after it
pub data Role : Type 0 where
  heading : Role
  net : Role
  slack : Role
  cells : Role
  at : Role
  node : ℕ → Role
  even : Role
  odd : Role
  end : Role
  over : Role

-- how many cells the head of a certificate announces
abbrev pub cell_count : List Line → ℕ
cell_count ls = count_in (word (line_at ls 3) 1)

-- how many pairs of each list a `node` line announces
abbrev pub even_count : Line → ℕ
even_count line = count_in (word line 2)

abbrev pub odd_count : Line → ℕ
odd_count line = count_in (word line 3)

-- the lines of a node's section
abbrev pub section_length : Line → ℕ
section_length line = 1 + even_count line + odd_count line

-- the lines from here on: a section for each live node from the node v on, and `end`
unfoldable pub sections : ℕ → List Bool → List Line → List Role
sections v [] ls = end ∷ []
sections v (false ∷ live) ls = sections (suc v) live ls
sections v (true ∷ live) ls =
    node v ∷ (replicate (even_count (line_at ls 0)) even ++ (replicate (odd_count (line_at ls 0)) odd
    ++ sections (suc v) live (drop (section_length (line_at ls 0)) ls)))

-- where the sections begin
abbrev pub body : List Line → List Line
body ls = drop (4 + cell_count ls) ls

unfoldable pub roles : Problem → List Line → List Role
roles p ls = heading ∷ net ∷ slack ∷ cells ∷ (replicate (cell_count ls) at ++ sections 0 p.live (body ls))

abbrev pub role_at : Problem → List Line → ℕ → Role
role_at p ls i = get_or (roles p ls) i over

abbrev pub is_at : Role → Bool
is_at at = true
is_at _ = false

abbrev pub is_even : Role → Bool
is_even even = true
is_even _ = false

abbrev pub is_odd : Role → Bool
is_odd odd = true
is_odd _ = false

-- a line of this role is one more of those before it: of the cells, or of one list
abbrev pub goes_on : Role → Role → Bool
goes_on before at = is_at before
goes_on before even = is_even before
goes_on before odd = is_odd before
goes_on before _ = false

-- the line before, where a line of this role goes on after it
abbrev pub line_before : Problem → List Line → ℕ → Role → Option Line
line_before p ls zero role = None
line_before p ls (suc i) role = cond (goes_on (role_at p ls i) role) (Some (line_at ls i)) None
