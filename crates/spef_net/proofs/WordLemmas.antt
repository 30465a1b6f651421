-- Lines taken, by their words.
use Rattle.std.proofs.Common.{◌≡◌, ◌||◌, Bool, ℕ, true, false, List, [], ◌∷◌, length, eqb, arith, refl, sym, ap, ◌∙◌, subst, Option, Some, None, Result, Ok, Err}
use Rattle.std.proofs.lemmas.Bool.Decides.{nat_tests}
use Rattle.vg_num.specs.declared.fault.NumFault.{NumFault}
use Rattle.vg_scan.specs.Lines.{words, Line}
use Rattle.vg_scan.specs.declared.name.NodeName.{NodeName}
use Rattle.spef_file.specs.Files.{File}
use Rattle.spef_net.specs.declared.part.Part.{Part}
use Rattle.spef_net.specs.declared.part.Part.TheVariants.{Nowhere, Conns, Caps, Ress, Inducs}
use Rattle.spef_net.specs.declared.fault.NetKind.{NetKind}
use Rattle.spef_net.specs.declared.fault.NetKind.TheVariants.{Cap, Res}
use Rattle.spef_net.specs.Lines.{head_of}
use Rattle.spef_net.specs.Statements.{Stated, Opens, Nothing, conn_line, cap_line, res_line, ground, coupling, resistor, statement_in, statement_or_opens, statement_of_words, statement_of}
use Rattle.spef_net.specs.Sights.{ground_in, coupling_in, resistor_in}
use Rattle.spef_net.specs.Rows.{is_inductance, joined_in}
use Rattle.spef_net.specs.Builders.{PartialNet, Takes, Follows}
use Rattle.spef_net.specs.Connections.{is_conns, with_joined, Gathers}
use Rattle.spef_net.proofs.TakeLemmas.{takes_head, takes_nothing}
use Rattle.spef_net.proofs.LineLemmas.{bad_line, quiet, same_part}

-- a text that names no node
pub ground_bad : (net : List ℕ) (old new : PartialNet) (o : Option NodeName) (value : Result ℕ NumFault) → o ≡ None → Takes (Err Cap) net old (ground o value) new
ground_bad net old new o value e = subst (λ (o : Option NodeName). Takes (Err Cap) net old (ground o value) new) (sym e) (bad_line net old new (Err Cap) Cap refl)

pub coupling_bad : (net : List ℕ) (old new : PartialNet) (o : Option (NodeName × NodeName)) (value : Result ℕ NumFault) → o ≡ None → Takes (Err Cap) net old (coupling o value) new
coupling_bad net old new o value e = subst (λ (o : Option (NodeName × NodeName)). Takes (Err Cap) net old (coupling o value) new) (sym e) (bad_line net old new (Err Cap) Cap refl)

pub resistor_bad : (net : List ℕ) (old new : PartialNet) (o : Option (NodeName × NodeName)) (value : Result ℕ NumFault) → o ≡ None → Takes (Err Res) net old (resistor o value) new
resistor_bad net old new o value e = subst (λ (o : Option (NodeName × NodeName)). Takes (Err Res) net old (resistor o value) new) (sym e) (bad_line net old new (Err Res) Res refl)

-- what a line without words says, a head, and another line
pub says_nothing : (file : File) (part : Part) (line : List ℕ) → words line ≡ [] → statement_of file part line ≡ Ok Nothing
unfolding statement_of_words
says_nothing file part line e = ap (statement_of_words file part line) e

says_word : (file : File) (part : Part) (line first : List ℕ) (others : Line) → words line ≡ first ∷ others
    → statement_of file part line ≡ statement_or_opens (head_of (first ∷ others)) (statement_in part file line (first ∷ others))
unfolding statement_of_words
says_word file part line first others e = ap (statement_of_words file part line) e

pub says_head : (file : File) (part opened : Part) (line first : List ℕ) (others : Line) → words line ≡ first ∷ others → head_of (first ∷ others) ≡ Some opened → statement_of file part line ≡ Ok (Opens opened)
says_head file part opened line first others e h = says_word file part line first others e ∙ ap (λ o. statement_or_opens o (statement_in part file line (first ∷ others))) h

pub says_within : (file : File) (part : Part) (line first : List ℕ) (others : Line) → words line ≡ first ∷ others → head_of (first ∷ others) ≡ None → statement_of file part line ≡ statement_in part file line (first ∷ others)
says_within file part line first others e h = says_word file part line first others e ∙ ap (λ o. statement_or_opens o (statement_in part file line (first ∷ others))) h

pub no_length : (n : ℕ) → eqb n 0 ≡ true → n ≡ 0
no_length n e = grind (arith, nat_tests)

-- the gather of a line: of a head, of no words, and of a line that names no connection
pub gathers_head : (nodes : List NodeName) (part opened : Part) (s : Stated) → s ≡ Ok (Opens opened) → Gathers (Ok opened) nodes nodes part s
gathers_head nodes part opened s e = subst (λ (s : Stated). Gathers (Ok opened) nodes nodes part s) (sym e) (refl, refl)

pub gathers_none : (nodes : List NodeName) (part : Part) (s : Stated) → s ≡ Ok Nothing → Gathers (Ok part) nodes nodes part s
gathers_none nodes part s e = subst (λ (s : Stated). Gathers (Ok part) nodes nodes part s) (sym e) (refl, refl)

pub gathers_quiet : (file : File) (part : Part) (line : List ℕ) (ws : Line) (nodes : List NodeName) (s : Stated) → s ≡ statement_in part file line ws → is_conns part ≡ false → Gathers (Ok part) nodes nodes part s
gathers_quiet file part line ws nodes s e n =
    let q = quiet file part line ws n in
    subst (λ (s : Stated). Gathers (Ok part) nodes nodes part s) (sym e) (q.part part, sym (ap (with_joined nodes) q.joined))

-- a line is taken: one of no words, a head, and another
pub follows_none : (net : List ℕ) (part : Part) (old : PartialNet) (s : Stated) → s ≡ Ok Nothing → Follows (Ok part) net part old s old
follows_none net part old s e = subst (λ (s : Stated). Follows (Ok part) net part old s old) (sym e) (refl, takes_nothing net old tt)

pub follows_head : (net : List ℕ) (part opened : Part) (old new : PartialNet) (inductive : Bool) (s : Stated) → s ≡ Ok (Opens opened)
    → inductive ≡ (old.inductive || is_inductance (Ok (Opens opened))) → new ≡ record old { inductive = inductive } → Follows (Ok opened) net part old s new
follows_head net part opened old new inductive s e i is = subst (λ (s : Stated). Follows (Ok opened) net part old s new) (sym e) (refl, takes_head net old new opened inductive tt i is)

pub follows_line : (file : File) (net : List ℕ) (part : Part) (line : List ℕ) (ws : Line) (old new : PartialNet) (s : Stated) → s ≡ statement_in part file line ws → Takes (Ok tt) net old (statement_in part file line ws) new → Follows (Ok part) net part old s new
follows_line file net part line ws old new s e t = subst (λ (s : Stated). Follows (Ok part) net part old s new) (sym e) (same_part file part part line ws, t)

pub follows_fault : (net : List ℕ) (part : Part) (old new : PartialNet) (kind : NetKind) (s t : Stated) → s ≡ t → Takes (Err kind) net old t new → Follows (Err kind) net part old s new
follows_fault net part old new kind s t e h = subst (λ (s : Stated). Follows (Err kind) net part old s new) (sym e) h

-- the gather of a line of connections
pub gathers_conn : (file : File) (part : Part) (line : List ℕ) (ws : Line) (old new : List NodeName) (s : Stated) → s ≡ statement_in part file line ws → is_conns part ≡ true → new ≡ with_joined old (joined_in (conn_line file line ws)) → Gathers (Ok part) old new part s
gathers_conn file Nowhere line ws old new s e n h = absurd (cc)
gathers_conn file Caps line ws old new s e n h = absurd (cc)
gathers_conn file Ress line ws old new s e n h = absurd (cc)
gathers_conn file Inducs line ws old new s e n h = absurd (cc)
gathers_conn file Conns line ws old new s e n h = subst (λ (s : Stated). Gathers (Ok Conns) old new Conns s) (sym e) (same_part file Conns Conns line ws, h)

-- a line of the net and of the file of a builder
pub follows_of : (r : Result Part NetKind) (file of_builder : File) (net net_of_builder : List ℕ) (part : Part) (line : List ℕ) (old new : PartialNet) → of_builder ≡ file → net_of_builder ≡ net
    → Follows r net_of_builder part old (statement_of of_builder part line) new → Follows r net part old (statement_of file part line) new
follows_of r file of_builder net net_of_builder part line old new f n h =
    subst (λ (p : File × List ℕ). Follows r p.1 part old (statement_of p.0 part line) new) (λ i. (f i, n i)) h

-- lines of another number of words are no capacitors and no resistors
pub cap_bad : (file : File) (id : List ℕ) (ws : Line) (net : List ℕ) (old : PartialNet) → (length ws ≡ 2 → ⊥) → (length ws ≡ 3 → ⊥) → Takes (Err Cap) net old (cap_line file (id ∷ ws)) old
unfolding cap_line
cap_bad file id [] net old h k = bad_line net old old (Err Cap) Cap refl
cap_bad file id (a ∷ []) net old h k = bad_line net old old (Err Cap) Cap refl
cap_bad file id (a ∷ b ∷ []) net old h k = absurd (h refl)
cap_bad file id (a ∷ b ∷ c ∷ []) net old h k = absurd (k refl)
cap_bad file id (a ∷ b ∷ c ∷ d ∷ ds) net old h k = bad_line net old old (Err Cap) Cap refl

pub res_bad : (file : File) (id : List ℕ) (ws : Line) (net : List ℕ) (old : PartialNet) → (length ws ≡ 3 → ⊥) → Takes (Err Res) net old (res_line file (id ∷ ws)) old
unfolding res_line
res_bad file id [] net old k = bad_line net old old (Err Res) Res refl
res_bad file id (a ∷ []) net old k = bad_line net old old (Err Res) Res refl
res_bad file id (a ∷ b ∷ []) net old k = bad_line net old old (Err Res) Res refl
res_bad file id (a ∷ b ∷ c ∷ []) net old k = absurd (k refl)
res_bad file id (a ∷ b ∷ c ∷ d ∷ ds) net old k = bad_line net old old (Err Res) Res refl

-- the same of words that are these
pub cap_other : (file : File) (id : List ℕ) (ws others : Line) (net : List ℕ) (old : PartialNet) → ws ≡ others → (length others ≡ 2 → ⊥) → (length others ≡ 3 → ⊥) → Takes (Err Cap) net old (cap_line file (id ∷ ws)) old
cap_other file id ws others net old e h k = subst (λ (ws : Line). Takes (Err Cap) net old (cap_line file (id ∷ ws)) old) (sym e) (cap_bad file id others net old h k)

pub res_other : (file : File) (id : List ℕ) (ws others : Line) (net : List ℕ) (old : PartialNet) → ws ≡ others → (length others ≡ 3 → ⊥) → Takes (Err Res) net old (res_line file (id ∷ ws)) old
res_other file id ws others net old e k = subst (λ (ws : Line). Takes (Err Res) net old (res_line file (id ∷ ws)) old) (sym e) (res_bad file id others net old k)

-- a capacitor to the ground, one between two nodes, and a resistor
pub cap_ground : (r : Result (Unit {0}) NetKind) (file : File) (id node value : List ℕ) (ws : Line) (net : List ℕ) (old new : PartialNet) → ws ≡ node ∷ value ∷ [] → Takes r net old (ground_in file node value) new → Takes r net old (cap_line file (id ∷ ws)) new
unfolding cap_line
cap_ground r file id node value ws net old new e t = subst (λ (ws : Line). Takes r net old (cap_line file (id ∷ ws)) new) (sym e) t

pub cap_coupling : (r : Result (Unit {0}) NetKind) (file : File) (id a b value : List ℕ) (ws : Line) (net : List ℕ) (old new : PartialNet) → ws ≡ a ∷ b ∷ value ∷ [] → Takes r net old (coupling_in file a b value) new → Takes r net old (cap_line file (id ∷ ws)) new
unfolding cap_line
cap_coupling r file id a b value ws net old new e t = subst (λ (ws : Line). Takes r net old (cap_line file (id ∷ ws)) new) (sym e) t

pub res_resistor : (r : Result (Unit {0}) NetKind) (file : File) (id a b value : List ℕ) (ws : Line) (net : List ℕ) (old new : PartialNet) → ws ≡ a ∷ b ∷ value ∷ [] → Takes r net old (resistor_in file a b value) new → Takes r net old (res_line file (id ∷ ws)) new
unfolding res_line
res_resistor r file id a b value ws net old new e t = subst (λ (ws : Line). Takes r net old (res_line file (id ∷ ws)) new) (sym e) t

-- words one after another
pub then_word : (ws rest others : Line) (word : List ℕ) → ws ≡ word ∷ rest → rest ≡ others → ws ≡ word ∷ others
then_word ws rest others word e f = e ∙ ap (λ rest. word ∷ rest) f

-- no words are left
pub none_more : (ws : Line) → eqb (length ws) 0 ≡ true → ws ≡ []
none_more [] e = refl
none_more (w ∷ ws) e = absurd (let n = no_length (length (w ∷ ws)) e in omega arith)

pub some_more : (ws : Line) → eqb (length ws) 0 ≡ false → length ws ≡ 0 → ⊥
some_more [] e n = cc
some_more (w ∷ ws) e n = omega (arith, n)
