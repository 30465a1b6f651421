-- Lines without a fault denote a net.
use Rattle.std.proofs.Common.{◌≡◌, ℕ, zero, suc, ◌<◌, inl, inr, Bool, true, false, ◌&&◌, ◌||◌, not, cond, eqb, List, [], ◌∷◌, ◌++◌, length, take, get_or, codes, refl, sym, ap, ◌∙◌, arith, subst, append_assoc, length-append, Option, Some, None, Ok, Err, is_some, All}
use Rattle.std.specs.Prelude.{Result, pos, unsigned_abs}
use Rattle.std.proofs.lemmas.List.{append-nil}
use Rattle.std.proofs.lemmas.List.Elements.{All-tail}
use Rattle.std.proofs.Math.ListN.{get_or-append}
use Rattle.std.specs.List.{AllPass, slice_get}
use Rattle.std.specs.Str.Lines.{lines}
use Rattle.vg_num.specs.declared.fault.NumFault.{NumFault}
use Rattle.vg_scan.specs.declared.name.NodeName.{NodeName}
use Rattle.vg_scan.specs.Nodes.{same_node, has_node, node_value}
use Rattle.vg_scan.specs.Printed.{IsPrintable}
use Rattle.vg_scan.proofs.ClearedLemmas.{eq_of, ne_of_false}
use Rattle.vg_scan.proofs.SolidLemmas.{lines_are_inside}
use Rattle.spef_file.specs.Files.{File}
use Rattle.spef_file.specs.declared.header.Header.{Header}
use Rattle.spef_nodes.specs.Members.{is_inner, is_known, with_node, distinct}
use Rattle.spef_nodes.specs.Names.{is_own}
use Rattle.spef_nodes.specs.NodeReaders.{net_nodes}
use Rattle.spef_nodes.specs.Nodes.{Note, fresh, joined, starred, is_starred, note_at, noted_all}
use Rattle.spef_nodes.proofs.NodeListLemmas.{same_is, has-with_node}
use Rattle.spef_nodes.proofs.NodeTableLemmas.{same_refl}
use Rattle.spef_net.specs.declared.fault.NetKind.{NetKind}
use Rattle.spef_net.specs.declared.net.ParNet.{ParNet}
use Rattle.spef_net.specs.Nets.{in_line}
use Rattle.spef_net.specs.Builders.{PartialNet, start_of, note_from, IsPartialNet, IsCounted}
use Rattle.spef_net.specs.Denoted.{IsNet}
use Rattle.spef_net.specs.Faults.{number_fault, fault_of, IsFaultless}
use Rattle.spef_net.specs.Rows.{joined_of, starred_of, connected_of, own_one, is_inductance}
use Rattle.spef_net.specs.Statements.{Stated, Opens, Nothing, Connects, Star, Ground, Coupling, Resistor, statements}
use Rattle.spef_net.proofs.BuilderLemmas.{IsNext, partial_more, head_next, nothing_next, conn_next, star_next, again_next, ground_next, coupling_next, resistor_next}
use Rattle.spef_net.proofs.FinishLemmas.{made_net}
use Rattle.spef_net.proofs.LineLemmas.{no_lines}
use Rattle.spef_net.proofs.SoundLemmas.{sound}
use Rattle.spef_write.specs.Sections.{inner_lines, head_line, section_text, IsWritable}
use Rattle.spef_write.specs.SectionLaws.{said_by}
use Rattle.spef_write.proofs.ClearLemmas.{said_nets_are_faultless}
use Rattle.spef_write.proofs.SayLemmas.{inner_lines_say}
use Rattle.spef_write.proofs.ShapeLemmas.{sections_are_lines}
use Rattle.spef_write.proofs.WordLemmas.{both_true}
use Rattle.spef_patch_laws.proofs.WrittenLemmas.{all_none}
use Rattle.spef_patch_laws.proofs.ApartLemmas.{In, or_first, or_second}

-- ---- notes and numbers of nodes

-- notes of which that of a number is another
put_note : List Note → ℕ → Note → List Note
put_note [] zero note = note ∷ []
put_note [] (suc id) note = fresh ∷ put_note [] id note
put_note (x ∷ notes) zero note = note ∷ notes
put_note (x ∷ notes) (suc id) note = x ∷ put_note notes id note

put_there : (notes : List Note) (id : ℕ) (note : Note) → note_at (put_note notes id note) id ≡ note
unfolding put_note
put_there [] zero note = refl
put_there [] (suc id) note = put_there [] id note
put_there (x ∷ notes) zero note = refl
put_there (x ∷ notes) (suc id) note = put_there notes id note

put_other : (notes : List Note) (id i : ℕ) (note : Note) → (i ≡ id → ⊥) → note_at (put_note notes id note) i ≡ note_at notes i
unfolding put_note
put_other [] zero zero note h = absurd (h refl)
put_other [] zero (suc i) note h = refl
put_other [] (suc id) zero note h = refl
put_other [] (suc id) (suc i) note h = put_other [] id i note (λ e. h (ap suc e))
put_other (x ∷ notes) zero zero note h = absurd (h refl)
put_other (x ∷ notes) zero (suc i) note h = refl
put_other (x ∷ notes) (suc id) zero note h = refl
put_other (x ∷ notes) (suc id) (suc i) note h = put_other notes id i note (λ e. h (ap suc e))

put_at : (notes : List Note) (id i : ℕ) (note : Note) → note_at (put_note notes id note) i ≡ cond (eqb i id) note (note_at notes i)
put_at notes id i note = by_test (eqb i id) refl
  where
    by_test : (t : Bool) → eqb i id ≡ t → note_at (put_note notes id note) i ≡ cond (eqb i id) note (note_at notes i)
    by_test true e = ap (note_at (put_note notes id note)) (eq_of i id e) ∙ put_there notes id note ∙ sym (ap (λ t. cond t note (note_at notes i)) e)
    by_test false e = put_other notes id i note (ne_of_false i id e) ∙ sym (ap (λ t. cond t note (note_at notes i)) e)

place_step : (x : NodeName) (xs : List NodeName) (node : NodeName) (b : Bool) → same_node node x ≡ b → (has_node xs node ≡ true → (id : ℕ) × (slice_get xs id ≡ Some node))
    → (b || has_node xs node) ≡ true → (id : ℕ) × (slice_get (x ∷ xs) id ≡ Some node)
place_step x xs node true s later e = (0, ap Some (sym (same_is node x s)))
place_step x xs node false s later e = (let p = later e in (suc p.0, p.1))

place_of : (xs : List NodeName) (node : NodeName) → has_node xs node ≡ true → (id : ℕ) × (slice_get xs id ≡ Some node)
place_of [] node e = absurd (cc)
place_of (x ∷ xs) node e = place_step x xs node (same_node node x) refl (place_of xs node) e

-- the number of a node, which is put last where it is new
number_in : (nodes : List NodeName) (node : NodeName) → (id : ℕ) × (slice_get (with_node nodes node) id ≡ Some node)
number_in nodes node = place_of (with_node nodes node) node (has-with_node nodes node node ∙ or_second (has_node nodes node) (same_node node node) (same_refl node))

-- ---- one line

-- a builder has taken lines
record HasBuilder (connected : List NodeName) (net : List ℕ) (lines : List Stated) : Type 0 where
  builder : PartialNet
  is : IsPartialNet connected net lines builder

next : (connected : List NodeName) (net : List ℕ) (before : List Stated) (old new : PartialNet) (line : Stated) → IsPartialNet connected net before old → IsNext connected net before old line new
    → HasBuilder connected net (before ++ line ∷ [])
next connected net before old new line s n = record { builder = new; is = partial_more connected net before old line new s n }

none_twice : (j s : Option (List ℕ)) (kind : NetKind) → cond (is_some j || is_some s) (Some kind) None ≡ None → note_from j s ≡ fresh
none_twice None None kind e = refl
none_twice None (Some t) kind e = absurd (cc)
none_twice (Some t) s kind e = absurd (cc)

inner_free : (a : Bool) (j : Option (List ℕ)) (kind : NetKind) → cond (a && not (is_some j)) None (Some kind) ≡ None → (a ≡ true) × (j ≡ None)
inner_free true None kind e = (refl, refl)
inner_free true (Some t) kind e = absurd (cc)
inner_free false j kind e = absurd (cc)

good_value : (value : Result ℕ NumFault) → number_fault value ≡ None → (v : ℕ) × (value ≡ Ok v)
good_value (Ok v) e = (v, refl)
good_value (Err f) e = absurd (cc)

own_value : (a : Bool) (o : Option NetKind) (kind : NetKind) → cond a o (Some kind) ≡ None → (a ≡ true) × (o ≡ None)
own_value true o kind e = (refl, e)
own_value false o kind e = absurd (cc)

one_own : (a b : Bool) (o : Option NetKind) (k m : NetKind) → cond (a && b) (Some k) (cond (a || b) o (Some m)) ≡ None → ((a || b) ≡ true) × (o ≡ None)
one_own true true o k m e = absurd (cc)
one_own true false o k m e = (refl, e)
one_own false true o k m e = (refl, e)
one_own false false o k m e = absurd (cc)

own_known : (connected : List NodeName) (net : List ℕ) (a b : NodeName) (t : Bool) → is_own connected net a ≡ t → (t || is_own connected net b) ≡ true
    → is_own connected net (cond t a b) ≡ true
own_known connected net a b true e f = e
own_known connected net a b false e f = f

-- which node of a coupling is the net's
own_is : (connected : List NodeName) (net : List ℕ) (a b : NodeName) → (is_own connected net a || is_own connected net b) ≡ true → is_own connected net (own_one connected net a b) ≡ true
own_is connected net a b e = own_known connected net a b (is_own connected net a) refl e

star_line : (connected : List NodeName) (net : List ℕ) (before : List Stated) (old : PartialNet) (node : NodeName) (note : List ℕ) (o : Option (List ℕ)) → IsPartialNet connected net before old
    → is_known old.nodes net node ≡ true → node_value (joined_of before) node ≡ None → node_value (starred_of before) node ≡ o → HasBuilder connected net (before ++ Ok (Star node note) ∷ [])
star_line connected net before old node note None s known j t =
    let (id, at) = number_in old.nodes node in
    next connected net before old _ (Ok (Star node note)) s
    (star_next connected net before old node note id (put_note old.notes id (starred note)) s known at (ap (λ p. note_from p (node_value (starred_of before) node)) j ∙ ap (note_from None) t) (λ i. put_at old.notes id i (starred note)))
star_line connected net before old node note (Some text) s known j t =
    next connected net before old _ (Ok (Star node note)) s
    (again_next connected net before old node note s known (ap (λ n. is_starred n) (ap (λ p. note_from p (node_value (starred_of before) node)) j ∙ ap (note_from None) t)))

line_built : (connected : List NodeName) (net : List ℕ) (before : List Stated) (old : PartialNet) (line : Stated) → IsPartialNet connected net before old
    → fault_of connected net before line ≡ None → IsCounted connected line → HasBuilder connected net (before ++ line ∷ [])
unfolding fault_of
line_built connected net before old (Err kind) s clear counted = absurd (cc)
line_built connected net before old (Ok (Opens part)) s clear counted =
    next connected net before old _ (Ok (Opens part)) s (head_next connected net before old part (old.inductive || is_inductance (Ok (Opens part))) s refl)
line_built connected net before old (Ok Nothing) s clear counted = next connected net before old old (Ok Nothing) s (nothing_next connected net before old s)
line_built connected net before old (Ok (Connects kind direction node note)) s clear counted =
    let (id, at) = number_in old.nodes node in
    next connected net before old _ (Ok (Connects kind direction node note)) s
    (conn_next connected net before old kind direction node note id (put_note old.notes id (joined note)) s
    (s.own node ∙ or_first (has_node connected node) (is_inner net node) counted) at
    (none_twice (node_value (joined_of before) node) (node_value (starred_of before) node) _ clear) (λ i. put_at old.notes id i (joined note)))
line_built connected net before old (Ok (Star node note)) s clear counted =
    let h = inner_free (is_inner net node) (node_value (joined_of before) node) _ clear in
    star_line connected net before old node note (node_value (starred_of before) node) s (or_second (has_node old.nodes node) (is_inner net node) h.0) h.1 refl
line_built connected net before old (Ok (Ground node value)) s clear counted =
    let h = own_value (is_own connected net node) (number_fault value) _ clear in
    let (v, good) = good_value value h.1 in
    let (id, at) = number_in old.nodes node in
    subst (λ w. HasBuilder connected net (before ++ Ok (Ground node w) ∷ [])) (sym good)
    (next connected net before old _ (Ok (Ground node (Ok v))) s (ground_next connected net before old node v id s (s.own node ∙ h.0) at))
line_built connected net before old (Ok (Coupling a b value)) s clear counted =
    let h = one_own (is_own connected net a) (is_own connected net b) (number_fault value) _ _ clear in
    let (v, good) = good_value value h.1 in
    let node = own_one connected net a b in
    let (id, at) = number_in old.nodes node in
    subst (λ w. HasBuilder connected net (before ++ Ok (Coupling a b w) ∷ [])) (sym good)
    (next connected net before old _ (Ok (Coupling a b (Ok v))) s (coupling_next connected net before old a b node v id refl s (s.own node ∙ own_is connected net a b h.0) at))
line_built connected net before old (Ok (Resistor a b value)) s clear counted =
    let h = own_value (is_own connected net a && is_own connected net b) (number_fault value) _ clear in
    let own = both_true (is_own connected net a) (is_own connected net b) h.0 in
    let (v, good) = good_value value h.1 in
    let (i, at) = number_in old.nodes a in
    let (j, after) = number_in (with_node old.nodes a) b in
    subst (λ w. HasBuilder connected net (before ++ Ok (Resistor a b w) ∷ [])) (sym good)
    (next connected net before old _ (Ok (Resistor a b (Ok v))) s (resistor_next connected net before old a b v i j s (s.own a ∙ own.0) (s.own b ∙ own.1) at after))

-- ---- all lines

built : (connected : List NodeName) (net : List ℕ) (before later : List Stated) (old : PartialNet) → IsPartialNet connected net before old
    → ((i : ℕ) → i < length later → fault_of connected net (before ++ take i later) (get_or later i (Ok Nothing)) ≡ None)
    → ((line : Stated) → In line later → IsCounted connected line) → HasBuilder connected net (before ++ later)
built connected net before [] old s clear counted = subst (HasBuilder connected net) (sym (append-nil before)) (record { builder = old; is = s })
built connected net before (line ∷ later) old s clear counted =
    let h = line_built connected net before old line s (ap (λ ls. fault_of connected net ls line) (sym (append-nil before)) ∙ clear 0 (omega arith)) (counted line (inl refl)) in
    subst (HasBuilder connected net) (append_assoc before (line ∷ []) later)
    (built connected net (before ++ line ∷ []) later h.builder h.is
    (λ i l. ap (λ ls. fault_of connected net ls (get_or later i (Ok Nothing))) (append_assoc before (line ∷ []) (take i later)) ∙ clear (suc i) (omega arith))
    (λ l there. counted l (inr there)))

-- a connection's node is one of the connections'
counted_more : (x line : Stated) (all : List Stated) → (IsCounted (connected_of all) line) → IsCounted (connected_of (x ∷ all)) line
counted_more (Ok (Connects k d n t)) (Ok (Connects kind direction node note)) all h = or_second (same_node node n) (has_node (connected_of all) node) h
counted_more (Err kind) line all h = h
counted_more (Ok (Opens part)) line all h = h
counted_more (Ok Nothing) line all h = h
counted_more (Ok (Star n t)) line all h = h
counted_more (Ok (Ground n v)) line all h = h
counted_more (Ok (Coupling a b v)) line all h = h
counted_more (Ok (Resistor a b v)) line all h = h
counted_more (Ok (Connects k d n t)) (Err kind) all h = tt
counted_more (Ok (Connects k d n t)) (Ok (Opens part)) all h = tt
counted_more (Ok (Connects k d n t)) (Ok Nothing) all h = tt
counted_more (Ok (Connects k d n t)) (Ok (Star node note)) all h = tt
counted_more (Ok (Connects k d n t)) (Ok (Ground node value)) all h = tt
counted_more (Ok (Connects k d n t)) (Ok (Coupling a b value)) all h = tt
counted_more (Ok (Connects k d n t)) (Ok (Resistor a b value)) all h = tt

counted_here : (line : Stated) (all : List Stated) → IsCounted (connected_of (line ∷ all)) line
counted_here (Ok (Connects kind direction node note)) all = or_first (same_node node node) (has_node (connected_of all) node) (same_refl node)
counted_here (Err kind) all = tt
counted_here (Ok (Opens part)) all = tt
counted_here (Ok Nothing) all = tt
counted_here (Ok (Star node note)) all = tt
counted_here (Ok (Ground node value)) all = tt
counted_here (Ok (Coupling a b value)) all = tt
counted_here (Ok (Resistor a b value)) all = tt

counted_all : (line : Stated) (all : List Stated) → In line all → IsCounted (connected_of all) line
counted_all line (x ∷ all) (inl e) = subst (λ l. IsCounted (connected_of (l ∷ all)) line) e (counted_here line all)
counted_all line (x ∷ all) (inr h) = counted_more x line all (counted_all line all h)
counted_all line [] h = absurd h

builder_of : (file : File) (net : List ℕ) (all : List Stated) → IsFaultless net all → HasBuilder (connected_of all) net all
builder_of file net all clear =
    let start = net_nodes file net (distinct (connected_of all)) in
    built (connected_of all) net [] all (start_of start) (no_lines (connected_of all) start refl) clear (λ line there. counted_all line all there)

-- ---- a written net

all_left : {A : Type 0} (P : A → Type 0) (xs ys : List A) → All P (xs ++ ys) → All P xs
all_left P xs ys h = λ k d l. subst P (get_or-append xs ys d k l) (h k d (omega (arith, l, length-append xs ys)))

inner_lines_inside : (header : Header) (net : ParNet) → IsWritable net → All (AllPass in_line) (inner_lines header net)
inner_lines_inside header net writable =
    let front = head_line header net ∷ inner_lines header net in
    let all = subst (All (AllPass in_line)) (sections_are_lines header net [] writable) (lines_are_inside (section_text header net ++ [])) in
    All-tail (AllPass in_line) (head_line header net) (inner_lines header net) (all_left (AllPass in_line) front (lines (codes "*END" ++ [])) all)

-- a file that means what a header says, and has no name map
abbrev bare_file : Header → File
bare_file header = record {
  chars = header.chars;
  c_places = pos (unsigned_abs header.c_places);
  r_places = pos (unsigned_abs header.r_places);
  names = [];
  nets = [];
}

-- what a written section says denotes a net
pub some_net : (header : Header) (net : ParNet) → IsWritable net → (read : ParNet) × IsNet net.name false (said_by net) read
some_net header net writable =
    let file = bare_file header in
    let ls = inner_lines header net in
    let say : statements file ls ≡ said_by net = inner_lines_say file header net (record { chars = refl; c_places = refl; r_places = refl }) writable in
    let clear : IsFaultless net.name (statements file ls) = subst (IsFaultless net.name) (sym say) (said_nets_are_faultless net writable) in
    let h = builder_of file net.name (statements file ls) clear in
    let b = h.builder in
    let read : ParNet = record {
      name = net.name;
      nodes = noted_all b.nodes b.notes;
      conns = b.conns;
      caps = b.caps;
      ress = b.ress;
      reduced = false;
      inductive = b.inductive;
      sound = sound net.name file ls b h.is clear net.sound.named (all_none (λ (row : List ℕ × List ℕ). IsPrintable row.1)) (inner_lines_inside header net writable);
    } in
    let is = made_net net.name false (statements file ls) b read h.is
    (record { named = refl; nodes = refl; conns = refl; caps = refl; ress = refl; is_reduced = refl; is_inductive = refl }) in
    (read, subst (λ s. IsNet net.name false s read) say is)
